-- Which record is next.
use Rattle.std.specs.Prelude.{◌≡◌, ℕ, ◌+◌, ◌%◌, ◌^◌, Bool, true, cond, List, Option, Some, None, length, ◌==◌, nat_lt}
use Rattle.std.specs.Result.{result_ok}
use Rattle.wire.specs.declared.read.Cursor.{Cursor}
use Rattle.wire.specs.Read.{byte_at, number_at, string_at, span_of}
use Rattle.report.specs.declared.sections.Section.{Section}
use Rattle.report.specs.Parts.{going}

-- a section: kind, name, base, and the number of its records
abbrev pub section_at : List ℕ → ℕ → Option Section
section_at s at =
    going None (result_ok (byte_at s at)) λ kind.
    going None (result_ok (string_at s kind.1.at)) λ name.
    going None (result_ok (string_at s name.next.at)) λ base.
    going None (result_ok (number_at s base.next.at)) λ count.
    Some (record {
      kind = kind.0;
      name = span_of name;
      base = span_of base;
      count = count.0;
      ran = 0;
      agreed = 0;
      next = count.1;
    })

-- the first record from a place on; a section without records is malformed
abbrev pub first_at : List ℕ → ℕ → Option Section
first_at s at =
    cond (nat_lt at (length s))
    (going None (section_at s at) λ x.
    cond (x.count == 0) None (Some x))
    None

-- a section behind its next record
abbrev pub moved_of : Section → ℕ → Cursor → Section
moved_of x agreed k =
    record {
      kind = x.kind;
      name = x.name;
      base = x.base;
      count = x.count;
      ran = (x.ran + 1) % 2 ^ 32;
      agreed = agreed;
      next = k;
    }

-- the next record of the section, or the first behind it
abbrev pub after_of : List ℕ → Section → Option Section
after_of s x = cond (x.ran == x.count) (first_at s x.next.at) (Some x)

-- by whether the record agrees, and the place behind it
abbrev pub next_of : List ℕ → Section → Option (Bool × Cursor) → Option Section
next_of s x (Some ran) = after_of s (moved_of x (cond ran.0 ((x.agreed + 1) % 2 ^ 32) x.agreed) ran.1)
next_of s x None = None

-- where a line may be written: at a record that differs (the first 16 of a section are named), behind the last of a section, and where the input is
-- malformed
abbrev pub WritesLine : Section → Option (Bool × Cursor) → Type 0
WritesLine x (Some ran) = ran.0 ≡ true → (x.ran + 1) % 2 ^ 32 ≡ x.count
WritesLine x None = Unit {0}
