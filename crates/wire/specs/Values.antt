-- Answers in 01's words: "a reading place takes the next string and hands back the place behind it", or there is a fault at a place.
use Rattle.std.specs.Prelude.{ℕ, Result, Ok, Err}
use Rattle.wire.specs.declared.read.Cursor.{Cursor}
use Rattle.wire.specs.declared.read.Fault.{Fault}
use Rattle.wire.specs.declared.read.Part.{Part}

pub data Reading (A : Type 0) : Type 0 where
  read : A → ℕ → Reading A  -- what was read, and the place behind it
  fault : ℕ → Reading A

-- a part of the bytes: its first place, and the place behind it
pub record Span : Type 0 where
  pub from : ℕ
  pub to : ℕ

-- of a byte or a number
abbrev pub number_reads : Result (ℕ × Cursor) Fault → Reading ℕ
number_reads (Ok r) = read r.0 r.1.at
number_reads (Err e) = fault e.at

abbrev pub part_reads : Result Part Fault → Reading Span
part_reads (Ok p) = read (record { from = p.from; to = p.to }) p.next.at
part_reads (Err e) = fault e.at
