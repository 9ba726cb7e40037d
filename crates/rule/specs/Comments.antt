-- The promises of what held entries are made of: comments are UTF-8 and blobs are bytes, so that a client can read every list (readers, Promises).
use Rattle.std.specs.Prelude.{List}
use Rattle.wire.specs.Numbers.{Bytes}
use Rattle.wire.specs.Abnf.{Octets}
use Rattle.rule.specs.Gateway.{Gateway, fresh}
use Rattle.rule.specs.Soundness.{EveryEntry}
use Rattle.rule.specs.Calls.{Call, call}
use Rattle.rule.specs.Runs.{end_of, Every}
use Rattle.rule.specs.Words.{payload_of}

-- every held entry's comment is UTF-8
abbrev pub TextComments : Gateway → Type 0
TextComments g = EveryEntry (λ e. Octets e.comment) g.entries

-- every held entry's blob is a list of bytes
abbrev pub ByteBlobs : Gateway → Type 0
ByteBlobs g = EveryEntry (λ e. Bytes e.blob) g.entries

-- "comment string (UTF-8 ..)": no call keeps another
abbrev pub CallsKeepText : Type 0
CallsKeepText = (g : Gateway) (c : Call) → Bytes (payload_of c) → TextComments g → TextComments (call g c).gateway

abbrev pub CallsKeepBytes : Type 0
CallsKeepBytes = (g : Gateway) (c : Call) → Bytes (payload_of c) → ByteBlobs g → ByteBlobs (call g c).gateway

-- the payload of every call of a run is a list of bytes
abbrev pub BytesIn : List Call → Type 0
BytesIn cs = Every (λ c. Bytes (payload_of c)) cs

-- from a fresh gateway on, after any run
abbrev pub TextFromFresh : Type 0
TextFromFresh = (cs : List Call) → BytesIn cs → TextComments (end_of fresh cs)

abbrev pub BytesFromFresh : Type 0
BytesFromFresh = (cs : List Call) → BytesIn cs → ByteBlobs (end_of fresh cs)
