-- What the wire promises, as statements; the proofs are in proofs/.
use Rattle.std.specs.Prelude.{ℕ, ◌+◌, ◌-◌, ◌^◌, ◌≤◌, ◌<◌, ◌≡◌, List, [], ◌∷◌, ◌++◌, true, ◌↔◌, ◌⊎◌, Result, length, get_or, take, drop}
use Rattle.wire.specs.Limits.{payload_limit}
use Rattle.wire.specs.declared.frame.Split.{Split}
use Rattle.wire.specs.declared.refusal.Refusal.{Refusal}
use Rattle.wire.specs.declared.read.Cursor.{Cursor}
use Rattle.wire.specs.declared.read.Fault.{Fault}
use Rattle.wire.specs.declared.read.Part.{Part}
use Rattle.wire.specs.Values.{Reading, read, fault, Span, number_reads, part_reads}
use Rattle.wire.specs.Numbers.{Bytes, be32}
use Rattle.wire.specs.Utf8.{utf8, utf8_end}
use Rattle.wire.specs.Abnf.{Octets}
use Rattle.wire.specs.Mpint.{mpint, Shortest, Positive}
use Rattle.wire.specs.Read.{cut_of, cut_from, same, byte_at, number_at, string_at, text_at, mpint_at}
use Rattle.wire.specs.Write.{string, write}
use Rattle.wire.specs.Frames.{split_of, split_number, split_span, frame_payload, payload_from}
use Rattle.wire.specs.Refusals.{refusal_number, refusal_place, Says, wrote_says}

-- ## Answers

-- an answer's values tell it from every other answer
abbrev pub OneToOne : (A B : Type 0) → (A → B) → Type 0
OneToOne A B values = (a b : A) → values a ≡ values b → a ≡ b

pub record AnswersApart : Type 0 where
  pub numbers : OneToOne (Result (ℕ × Cursor) Fault) (Reading ℕ) number_reads  -- bytes too
  pub parts : OneToOne (Result Part Fault) (Reading Span) part_reads

-- ## Bytes, numbers and strings: what is accepted is exactly what the format writes

-- b and then rest stand at `at` exactly where the reader finds b there and rest behind it
abbrev pub ByteRule : Type 0
ByteRule =
    (s : List ℕ) (at b : ℕ) (rest : List ℕ)
    → (drop at s ≡ b ∷ rest) ↔ ((number_reads (byte_at s at) ≡ read b (at + 1)) × (drop (at + 1) s ≡ rest))

-- where no byte stands, the fault is there
abbrev pub ByteCut : Type 0
ByteCut = (s : List ℕ) (at : ℕ) → (number_reads (byte_at s at) ≡ fault at) ↔ (drop at s ≡ [])

-- n and then rest stand at `at` exactly where the reader finds n there and rest behind it
abbrev pub NumberRule : Type 0
NumberRule =
    (s : List ℕ) (at n : ℕ) (rest : List ℕ) → Bytes s → n < 2 ^ 32
    → (drop at s ≡ be32 n ++ rest) ↔ ((number_reads (number_at s at) ≡ read n (at + 4)) × (drop (at + 4) s ≡ rest))

-- where no number stands, the fault is at its start
abbrev pub NumberCut : Type 0
NumberCut =
    (s : List ℕ) (at : ℕ) → Bytes s
    → (number_reads (number_at s at) ≡ fault at) ↔ ((n : ℕ) (rest : List ℕ) → n < 2 ^ 32 → drop at s ≡ be32 n ++ rest → ⊥)

-- v and then rest stand at `at` exactly where the reader finds v there and rest behind it; for every length
abbrev pub StringRule : Type 0
StringRule =
    (s : List ℕ) (at : ℕ) (v rest : List ℕ) → Bytes s → length v < 2 ^ 32
    → (drop at s ≡ string v ++ rest)
    ↔ ((part_reads (string_at s at) ≡ read (record { from = at + 4; to = at + 4 + length v }) (at + 4 + length v))
    × (cut_of s (at + 4) (at + 4 + length v) ≡ v)
    × (drop (at + 4 + length v) s ≡ rest))

-- no string stands at the front of the bytes
abbrev pub NoString : List ℕ → Type 0
NoString s = (v rest : List ℕ) → length v < 2 ^ 32 → s ≡ string v ++ rest → ⊥

-- where no string stands, the fault is at the start of its length
abbrev pub StringCut : Type 0
StringCut = (s : List ℕ) (at : ℕ) → Bytes s → (part_reads (string_at s at) ≡ fault at) ↔ NoString (drop at s)

-- ## Parts

-- the bytes from f up to t lie at f, also where there are none; those that are not all there are none, at the start
pub record Cuts (s : List ℕ) (f t : ℕ) : Type 0 where
  pub there : f ≤ t → t ≤ length s → cut_of s f t ≡ take (t - f) (drop f s)
  pub from : f ≤ t → t ≤ length s → cut_from s f t ≡ f
  pub none : (f ≤ t → length s < t) → cut_of s f t ≡ []
  pub start : (f ≤ t → length s < t) → cut_from s f t ≡ 0

abbrev pub CutRule : Type 0
CutRule = (s : List ℕ) (f t : ℕ) → Cuts s f t

-- ## Texts

abbrev pub Utf8Rule : Type 0
Utf8Rule = (s : List ℕ) → (utf8 s ≡ true) ↔ Octets s

-- n is the length of the longest part from the start that the ABNF derives
pub record Longest (s : List ℕ) (n : ℕ) : Type 0 where
  pub within : n ≤ length s
  pub derived : Octets (take n s)
  pub no_longer : (m : ℕ) → n < m → m ≤ length s → Octets (take m s) → ⊥

abbrev pub Utf8End : Type 0
Utf8End = (s : List ℕ) → Longest s (utf8_end s)

abbrev pub TextRule : Type 0
TextRule =
    (s : List ℕ) (at : ℕ) (v : Span) (next : ℕ)
    → (part_reads (text_at s at) ≡ read v next) ↔ ((part_reads (string_at s at) ≡ read v next) × Octets (cut_of s v.from v.to))

-- no string is a fault at the start of its length; a string that is no text is one where its longest part of UTF-8 ends
pub record TextFaults (s : List ℕ) (at : ℕ) : Type 0 where
  pub cut : part_reads (string_at s at) ≡ fault at → part_reads (text_at s at) ≡ fault at
  pub other : (v : Span) (next : ℕ) → part_reads (string_at s at) ≡ read v next → (Octets (cut_of s v.from v.to) → ⊥)
      → (n : ℕ) × Longest (cut_of s v.from v.to) n × (part_reads (text_at s at) ≡ fault (v.from + n))

abbrev pub TextFault : Type 0
TextFault = (s : List ℕ) (at : ℕ) → TextFaults s at

-- ## Mpints

-- accepted are exactly the shortest forms of the numbers above zero
abbrev pub MpintRule : Type 0
MpintRule = (v : List ℕ) → Bytes v → (mpint v ≡ true) ↔ Positive v

-- and each number has one
abbrev pub MpintOne : Type 0
MpintOne = (v w : List ℕ) (n : ℕ) → Shortest v n → Shortest w n → v ≡ w

abbrev pub MpintAtRule : Type 0
MpintAtRule =
    (s : List ℕ) (at : ℕ) (v : Span) (next : ℕ)
    → (part_reads (mpint_at s at) ≡ read v next) ↔ ((part_reads (string_at s at) ≡ read v next) × (mpint (cut_of s v.from v.to) ≡ true))

-- no string, and a string that is no such mpint, is a fault at the start of its length
abbrev pub MpintFault : Type 0
MpintFault = (s : List ℕ) (at place : ℕ) → part_reads (mpint_at s at) ≡ fault place → place ≡ at

-- ## Comparison and writing

abbrev pub SameRule : Type 0
SameRule = (a b : List ℕ) → (same a b ≡ true) ↔ (a ≡ b)

-- what a writer leaves: its bytes in their place, and every other byte as it was
pub record WriteLeaves (out : List ℕ) (at : ℕ) (v : List ℕ) : Type 0 where
  pub size : length (write out at v) ≡ length out
  pub inside : (i : ℕ) → i < length v → get_or (write out at v) (at + i) 0 ≡ get_or v i 0
  pub outside : (i : ℕ) → (i < at) ⊎ (at + length v ≤ i) → get_or (write out at v) i 0 ≡ get_or out i 0

abbrev pub WriteRule : Type 0
WriteRule = (out : List ℕ) (at : ℕ) (v : List ℕ) → at + length v ≤ length out → WriteLeaves out at v

-- ## Frames

-- the number of the splitter's answer, and where it says that a payload lies, tell it from the others
abbrev pub SplitsApart : Type 0
SplitsApart = (a b : Split) → split_number a ≡ split_number b → split_span a ≡ split_span b → a ≡ b

-- the splitter says that a frame is whole, and hands out its payload, the part of the bytes behind their four of length
pub record Holds (s payload : List ℕ) : Type 0 where
  pub frame : split_number (split_of s) ≡ 2
  pub lies : split_span (split_of s) ≡ record { from = 4; to = 4 + length payload }
  pub payload_is : frame_payload s ≡ payload
  pub from : payload_from s ≡ 4

-- a payload's frame alone, and with more bytes behind it
pub record SplitsBack (payload : List ℕ) : Type 0 where
  pub alone : Holds (string payload) payload
  pub followed : (rest : List ℕ) → Holds (string payload ++ rest) payload

abbrev pub Splits : Type 0
Splits = (payload : List ℕ) → length payload ≤ payload_limit → SplitsBack payload

-- what the splitter says of any bytes: under 4 of them; a length above 262,144, with however many behind it; fewer bytes than the length
-- announces; and all of them. Unless a frame is whole, its payload is empty, and lies at their start
pub record SplitSays (s : List ℕ) : Type 0 where
  pub few : length s < 4 → split_number (split_of s) ≡ 0
  pub long : (n : ℕ) (rest : List ℕ) → s ≡ be32 n ++ rest → n < 2 ^ 32 → payload_limit < n → split_number (split_of s) ≡ 1
  pub short : (n : ℕ) (rest : List ℕ) → s ≡ be32 n ++ rest → n ≤ payload_limit → length rest < n → split_number (split_of s) ≡ 0
  pub whole : (n : ℕ) (rest : List ℕ) → s ≡ be32 n ++ rest → n ≤ payload_limit → n ≤ length rest → Holds s (take n rest)
  pub else_empty : (split_number (split_of s) ≡ 2 → ⊥) → frame_payload s ≡ []
  pub else_start : (split_number (split_of s) ≡ 2 → ⊥) → payload_from s ≡ 0

abbrev pub SplitTable : Type 0
SplitTable = (s : List ℕ) → SplitSays s

-- a part of a whole frame's payload, and where it lies in the bytes: four further on
pub record LiesIn (s : List ℕ) (from to : ℕ) : Type 0 where
  pub bytes : cut_of (frame_payload s) from to ≡ cut_of s (4 + from) (4 + to)
  pub within : 4 + to ≤ length s

abbrev pub FrameParts : Type 0
FrameParts = (s : List ℕ) (from to : ℕ) → split_number (split_of s) ≡ 2 → from ≤ to → to ≤ length (frame_payload s) → LiesIn s from to

-- ## Refusals

-- the number and the place of a refusal tell it from every other, and a writer's values its answer
abbrev pub RefusalsApart : Type 0
RefusalsApart = (a b : Refusal) → refusal_number a ≡ refusal_number b → refusal_place a ≡ refusal_place b → a ≡ b

abbrev pub WroteApart : Type 0
WroteApart = OneToOne (Result ℕ Refusal) (Says ℕ) wrote_says
