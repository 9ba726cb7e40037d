-- Add and sign requests: what the readers take is what the draft writes, and what the draft writes they take.
use Prim.Native.Nat.{ℕ, ◌+◌, ◌-◌, ◌^◌, ◌<◌}
use native.Mathlib.Omega.{arith}
use mathlib.Core.Path.{◌≡◌, refl, sym, ap, ap₂, ◌∙◌}
use mathlib.Core.Bool.{Bool, true, false}
use mathlib.Core.List.{List, ◌∷◌, ◌++◌}
use lib.ListN.{length, drop, length-append}
use lib.Seq.{drop-cons, get_or-drop}
use Rattle.std.proofs.Common.{None, Ok, Err}
use Rattle.wire.specs.declared.read.Cursor.{Cursor}
use Rattle.wire.specs.Numbers.{Bytes, be32}
use Rattle.wire.specs.Abnf.{Octets}
use Rattle.wire.specs.Values.{Span, part_reads, read}
use Rattle.wire.specs.Read.{cut_of, string_at, number_at, text_at}
use Rattle.wire.specs.Steps.{faulted, got, part_of, part}
use Rattle.wire.specs.Write.{string}
use Rattle.wire.proofs.Reading.{part_one, string-read, number_read}
use Rattle.wire.proofs.Format.{part_length, string-shape, string-form, number_form, be-shape, be-small}
use Rattle.wire.proofs.Laws.{text_rule, whole_of}
use Rattle.keys.specs.declared.kinds.Places.{Places}
use Rattle.keys.specs.Kinds.{Key}
use Rattle.keys.specs.Constraints.{Lifetime}
use Rattle.keys.specs.declared.constraints.Walk.{Walk}
use Rattle.keys.specs.declared.constraints.Walk.TheVariants.{Done, Duplicate, Unknown, Cut}
use Rattle.wire.specs.declared.read.Span.{Span as Piece}
use Rattle.keys.specs.declared.addition.Carried.{Carried}
use Rattle.keys.specs.Additions.{Addition}
use Rattle.keys.specs.Kinds.{key_at, blob_of}
use Rattle.keys.specs.Additions.{limits_of, constraints_at, commented_at, key, addition_at}
use Rattle.keys.specs.Values.{seconds_in, Added, addition_reads}
use Rattle.keys.proofs.KeyLaws.{only_keys, every_key}
use Rattle.wire.proofs.Strings.{lies_at, lies_cut}
use Rattle.keys.proofs.SettleLaws.{walk_rule}
use Rattle.rule.specs.Gateway.{NewKey}
use Rattle.rule.specs.Rule.{brought}
use Rattle.rule.specs.Words.{Begins, Carries}
use Rattle.rule.specs.Adding.{LimitForm, plain, constrained, AddRequest, add_byte, comment_span, added_of, AdditionRule}
use Rattle.rule.specs.Signing.{SignRequest}
use Rattle.rule.proofs.Cases.{part-cases}

-- ## A payload and its first byte

first_shape : {byte : ℕ} {payload : List ℕ} → Begins byte payload → payload ≡ byte ∷ drop 1 payload
first_shape {byte} {payload} b = drop-cons payload 0 0 b.some_byte ∙ ap (λ (n : ℕ). n ∷ drop 1 payload) b.first

shape_first : {byte : ℕ} {payload rest : List ℕ} → payload ≡ byte ∷ rest → Begins byte payload
shape_first {byte} {payload} e = rw e (record { some_byte = omega arith; first = refl })

drop-bytes : (at : ℕ) (s : List ℕ) → Bytes s → Bytes (drop at s)
drop-bytes at s bytes i = rw (get_or-drop at s i 0) (bytes (at + i))

-- a payload carries one string, and one place is behind it
pub one_carried : {v w payload : List ℕ} (s : Carries v payload) (t : Carries w payload) → (v ≡ w) × (s.next ≡ t.next)
one_carried s t =
    let same = part_one (sym s.read ∙ t.read) in
    (sym s.is ∙ ap₂ (cut_of _) same.from same.to ∙ t.is, same.next)

-- ## The steps of an add request

-- what was read one behind the other
record Steps (s : List ℕ) (c : Bool) (k : Carried) : Type 0 where
  fields : key_at s 1 ≡ Ok k.places
  next : Cursor
  comment : text_at s k.places.end ≡ part_of k.comment.from k.comment.to next
  limits : constraints_at s next.at c ≡ Done k.lifetime k.confirm

module _ (s : List ℕ) (c : Bool) (k : Carried) where
  abbrev Went : Addition → Type 0
  Went a = a ≡ Ok k → Steps s c k

  faulty : (at : ℕ) → Went (faulted at)
  faulty at e = let z : ◌≡◌ {A = ℕ} 0 1 = cc in absurd (omega arith)

  steps : Went (addition_at s 1 c)
  unfolding addition_at key commented_at limits_of
  steps = by_key (key_at s 1) refl
    where
      by_walk : (q : Places) (text : Piece) (w : Walk) → limits_of q text w ≡ Ok k
          → (q ≡ k.places) × (text ≡ k.comment) × (w ≡ Done k.lifetime k.confirm)
      by_walk q text (Done m b) e =
          let is : ◌≡◌ {A = Carried} (record { places = q; comment = text; lifetime = m; confirm = b }) k = cc in
          (ap (λ (x : Carried). x.places) is, ap (λ (x : Carried). x.comment) is, λ i. Done (is i).lifetime (is i).confirm)
      by_walk q text (Duplicate at) e = let z : ◌≡◌ {A = ℕ} 0 1 = cc in absurd (omega arith)
      by_walk q text (Unknown at) e = let z : ◌≡◌ {A = ℕ} 0 1 = cc in absurd (omega arith)
      by_walk q text (Cut at) e = let z : ◌≡◌ {A = ℕ} 0 1 = cc in absurd (omega arith)

      by_key : (read : Key) → key_at s 1 ≡ read → Went (key faulted read (λ p. commented_at s p c))
      by_key (Ok q) h =
          part-cases Went (text_at s q.end) (λ at _. faulty at) λ f t next e w.
          let (x, text, y) = by_walk q (record { from = f; to = t }) (constraints_at s next.at c) w in
          record { fields = h ∙ ap Ok x; next = next; comment = (rw x at e) ∙ (λ i. part_of (text i).from (text i).to next); limits = y }
      by_key (Err d) h = faulty d.at

  steps_back : Steps s c k → addition_at s 1 c ≡ Ok k
  unfolding addition_at key commented_at part limits_of
  steps_back r = rw (r.fields, r.comment, r.limits)

-- ## Texts

-- a text that is read is a string of UTF-8
text_shape : (s : List ℕ) (at f t : ℕ) (k : Cursor) → Bytes s → text_at s at ≡ part_of f t k
    → Octets (cut_of s f t) × (drop at s ≡ string (cut_of s f t) ++ drop k.at s)
text_shape s at f t k bytes e =
    let r = (text_rule s at (record { from = f; to = t }) k.at).0 (ap part_reads e) in
    let w = whole_of (string_at s at) (record { from = f; to = t }) k.at r.0 in
    let behind : k.at ≡ t = (string-read s at f t _ w).place in
    (r.1, string-shape s at f t _ bytes w ∙ rw behind)

-- and is read
text_there : (s : List ℕ) (at : ℕ) (v rest : List ℕ) → Bytes s → length v < 2 ^ 32 → Octets v → drop at s ≡ string v ++ rest
    → (text_at s at ≡ part_of (at + 4) (at + 4 + length v) (record { at = at + 4 + length v })) × (cut_of s (at + 4) (at + 4 + length v) ≡ v)
    × (drop (at + 4 + length v) s ≡ rest)
text_there s at v rest bytes small octets e =
    let (w, is, behind) = (string-form s at v rest bytes small).0 e in
    let span : Span = record { from = at + 4; to = at + 4 + length v } in
    (whole_of (text_at s at) span _ ((text_rule s at span _).1 (ap part_reads w, rw is octets)), is, behind)

-- where it lies: behind its length
text_span : (s : List ℕ) (at : ℕ) (fields : List ℕ) (f t : ℕ) (k : Cursor) → at ≡ 1 + length fields → text_at s at ≡ part_of f t k
    → ◌≡◌ {A = Span} (record { from = f; to = t }) (record { from = 1 + length fields + 4; to = 1 + length fields + 4 + length (cut_of s f t) })
text_span s at fields f t k end e =
    let r = (text_rule s at (record { from = f; to = t }) k.at).0 (ap part_reads e) in
    let w = string-read s at f t _ (whole_of (string_at s at) (record { from = f; to = t }) k.at r.0) in
    let long = part_length s f t (omega arith) w.within in
    let start : f ≡ 1 + length fields + 4 = omega arith in
    let stop : t ≡ 1 + length fields + 4 + length (cut_of s f t) = omega arith in
    λ i. record { from = start i; to = stop i }

-- ## Add requests

abbrev span_of : Piece → Span
span_of p = record { from = p.from; to = p.to }

-- what is read of an add request that brings this key
pub record AddRead (payload : List ℕ) (c : Bool) (carried : Carried) (k : NewKey) : Type 0 where
  pub begins : Begins (add_byte c) payload
  pub read : addition_at payload 1 c ≡ Ok carried
  pub brings : brought payload carried (blob_of payload 1 carried.places) ≡ k
  pub end : carried.places.end ≡ 1 + length k.fields
  pub lies : span_of carried.comment ≡ comment_span k

module _ (payload : List ℕ) (bytes : Bytes payload) where
  limits_in : (c : Bool) (at : ℕ) (l : Lifetime) (confirm : Bool) → constraints_at payload at c ≡ Done l confirm → LimitForm (add_byte c) (drop at payload) l confirm
  limits_in false at l confirm e =
      let x : None ≡ l = cc in
      let y : false ≡ confirm = cc in
      rw (← x, ← y) (plain (drop at payload))
  limits_in true at l confirm e =
      let (cs, form, adds) = (walk_rule at (drop at payload) l confirm (drop-bytes at payload bytes)).0 e in
      rw form (constrained cs l confirm adds)

  limits_out : {byte : ℕ} {rest : List ℕ} {l : Lifetime} {confirm : Bool} → LimitForm byte rest l confirm
      → (c : Bool) × (byte ≡ add_byte c) × ((at : ℕ) → drop at payload ≡ rest → constraints_at payload at c ≡ Done l confirm)
  limits_out (plain rest) = (false, refl, λ at e. refl)
  limits_out (constrained cs l confirm adds) = (true, refl, λ at e. (walk_rule at (drop at payload) l confirm (drop-bytes at payload bytes)).1 (cs, e, adds))

  -- what is read is a request as the draft writes it
  pub add_in : (c : Bool) (carried : Carried) → Begins (add_byte c) payload → addition_at payload 1 c ≡ Ok carried
      → (k : NewKey) × AddRequest payload k × AddRead payload c carried k
  add_in c carried begins e =
      let p = carried.places in
      let w = steps payload c carried e in
      let (fields, blob, form, shape, found) = only_keys payload 1 p bytes w.fields in
      let (octets, commented) = text_shape payload p.end carried.comment.from carried.comment.to w.next bytes w.comment in
      let lies = (lies_at payload 1 fields (drop p.end payload) begins.some_byte shape).0 in
      let cut : cut_of payload 1 p.end ≡ fields = ap (cut_of payload 1) found.end ∙ lies_cut lies in
      let text = cut_of payload carried.comment.from carried.comment.to in (
        record { blob = blob; fields = fields; comment = text; lifetime = carried.lifetime; confirm = carried.confirm },
        record {
          byte = add_byte c;
          rest = drop w.next.at payload;
          key = form;
          text = octets;
          limits = limits_in c w.next.at carried.lifetime carried.confirm w.limits;
          shape = first_shape begins ∙ ap (λ (rest : List ℕ). add_byte c ∷ rest) (shape ∙ ap (λ (rest : List ℕ). fields ++ rest) commented);
        },
        record {
          begins = begins;
          read = e;
          brings = λ i. record { blob = found.public i; fields = cut i; comment = text; lifetime = carried.lifetime; confirm = carried.confirm };
          end = found.end;
          lies = text_span payload p.end fields _ _ w.next found.end w.comment;
        },
      )

  -- what the draft writes is read
  pub add_out : (k : NewKey) → length payload < 2 ^ 32 → AddRequest payload k → (c : Bool) × (carried : Carried) × AddRead payload c carried k
  add_out k small r =
      let fields = k.fields in
      let (c, byte, limits) = limits_out r.limits in
      let size = simp length-append at (ap length r.shape) in
      let rest : List ℕ = string k.comment ++ r.rest in
      let shape : drop 1 payload ≡ fields ++ rest = ap (drop 1) r.shape in
      let (p, found) = every_key payload 1 fields k.blob rest bytes r.key (omega arith) shape in
      let begins : Begins (add_byte c) payload = rw (← byte) (shape_first r.shape) in
      let (lies, behind) = lies_at payload 1 fields rest begins.some_byte shape in
      let commented : drop p.end payload ≡ rest = rw found.end behind in
      let (text, is-text, left) = text_there payload p.end k.comment r.rest bytes (omega arith) r.text commented in
      let carried : Carried = record { places = p; comment = record { from = p.end + 4; to = p.end + 4 + length k.comment }; lifetime = k.lifetime; confirm = k.confirm } in
      let cut : cut_of payload 1 p.end ≡ fields = ap (cut_of payload 1) found.end ∙ lies_cut lies in (
        c,
        carried,
        record {
          begins = begins;
          read = steps_back payload c carried (record { fields = found.read_so; next = _; comment = text; limits = limits _ left });
          brings = λ i. record { blob = found.public i; fields = cut i; comment = is-text i; lifetime = k.lifetime; confirm = k.confirm };
          end = found.end;
          lies = λ i. record { from = found.end i + 4; to = found.end i + 4 + length k.comment };
        },
      )

  same_byte : (c d : Bool) → add_byte c ≡ add_byte d → c ≡ d
  same_byte false false e = refl
  same_byte false true e = absurd (omega arith)
  same_byte true false e = absurd (omega arith)
  same_byte true true e = refl

  abbrev Requests : Added → ℕ → Type 0
  Requests a end = (k : NewKey) × AddRequest payload k × (a ≡ added_of k) × (end ≡ 1 + length k.fields)

  -- what is said of what was read
  abbrev said_of : Carried → Added
  said_of c = record { blob = blob_of payload 1 c.places; comment = span_of c.comment; limits = record { seconds = seconds_in c.lifetime; confirm = c.confirm } }

  said_is : {c : Bool} {carried : Carried} {k : NewKey} → AddRead payload c carried k → said_of carried ≡ added_of k
  said_is r = λ i. record { blob = (r.brings i).blob; comment = r.lies i; limits = record { seconds = seconds_in (r.brings i).lifetime; confirm = (r.brings i).confirm } }

  said_request : (c : Bool) → Begins (add_byte c) payload → (r : Addition) → addition_at payload 1 c ≡ r → (a : Added) (end : ℕ) → addition_reads payload 1 r ≡ read a end → Requests a end
  said_request c begins (Ok carried) e a end says =
      let (k, request, r) = add_in c carried begins e in
      let is : said_of carried ≡ a = cc in
      let ends : carried.places.end ≡ end = cc in
      (k, request, sym is ∙ said_is r, sym ends ∙ r.end)
  said_request c begins (Err d) e a end says = let z : ◌≡◌ {A = ℕ} 0 1 = cc in absurd (omega arith)

  request_said : (c : Bool) → Begins (add_byte c) payload → length payload < 2 ^ 32 → (a : Added) (end : ℕ) → Requests a end → addition_reads payload 1 (addition_at payload 1 c) ≡ read a end
  request_said c begins small a end (k, request, is, ends) =
      let (d, carried, r) = add_out k small request in
      let same : d ≡ c = same_byte d c (sym r.begins.first ∙ begins.first) in
      rw (← same, r.read) (λ i. read ((said_is r ∙ sym is) i) ((r.end ∙ sym ends) i))

pub addition_rule : AdditionRule
addition_rule payload c a end bytes small begins =
    (said_request payload bytes c begins (addition_at payload 1 c) refl a end, request_said payload bytes c begins small a end)

-- ## Sign requests

-- data and flags at a place of the payload
pub record Ordered (payload : List ℕ) (at from to flags : ℕ) : Type 0 where
  pub next : Cursor
  pub end : Cursor
  pub message : string_at payload at ≡ part_of from to next
  pub choice : number_at payload next.at ≡ got flags end

-- what the readers of a sign request say of this blob, data and flags
pub record SignRead (payload blob bytes : List ℕ) (flags : ℕ) : Type 0 where
  pub begins : Begins 13 payload
  pub carries : Carries blob payload
  pub from : ℕ
  pub to : ℕ
  pub order : Ordered payload carries.next.at from to flags
  pub is_message : cut_of payload from to ≡ bytes

-- a string that is read, and what is behind it
string-in : (s : List ℕ) (at f t : ℕ) (k : Cursor) → Bytes s → string_at s at ≡ part_of f t k → drop at s ≡ string (cut_of s f t) ++ drop k.at s
string-in s at f t k bytes e = string-shape s at f t k bytes e ∙ rw (string-read s at f t k e).place

-- what is read is a request as the draft writes it
pub sign_in : {payload blob : List ℕ} {from to flags : ℕ} → Bytes payload → Begins 13 payload → (k : Carries blob payload) → Ordered payload k.next.at from to flags
    → SignRequest payload blob (cut_of payload from to) flags
sign_in {payload} {blob} {from} {to} {flags} bytes begins k order =
    let at = order.next.at in
    let n = number_read payload at flags order.end order.choice in
    let flags-shape : drop at payload ≡ be32 flags ++ drop (at + 4) payload = rw n.number (be-shape payload at bytes n.within) in
    let data-shape = string-in payload k.next.at from to order.next bytes order.message in
    let key-shape = string-in payload 1 k.from k.to k.next bytes k.read in
    record {
      rest = drop (at + 4) payload;
      short = rw n.number (be-small payload at bytes);
      shape = first_shape begins ∙ ap (λ (rest : List ℕ). 13 ∷ rest) (rw (← flags-shape, ← data-shape, ← k.is) key-shape);
    }

-- where the data lies: behind the first byte, the blob's string and the data's own length
pub record DataPlaces (payload blob : List ℕ) (from to : ℕ) : Type 0 where
  pub start : from ≡ 1 + length (string blob) + 4
  pub end : to ≡ from + length (cut_of payload from to)

pub data_places : {payload blob : List ℕ} {from to flags : ℕ} (k : Carries blob payload) → Ordered payload k.next.at from to flags → DataPlaces payload blob from to
data_places {payload} {blob} {from} {to} k order =
    let key = string-read payload 1 k.from k.to k.next k.read in
    let message = string-read payload k.next.at from to order.next order.message in
    let key-length = part_length payload k.from k.to (omega arith) key.within in
    let message-length = part_length payload from to (omega arith) message.within in
    let blob-length : length blob ≡ k.to - k.from = sym (ap length k.is) ∙ key-length in
    record { start = omega arith; end = omega arith }

-- what the draft writes is read
pub sign_out : {payload blob bytes : List ℕ} {flags : ℕ} → Bytes payload → length payload < 2 ^ 32 → SignRequest payload blob bytes flags → SignRead payload blob bytes flags
sign_out {payload} {blob} {bytes} {flags} is-bytes small r =
    let size = simp length-append at (ap length r.shape) in
    let (key, is_key, behind) = (string-form payload 1 blob (string bytes ++ (be32 flags ++ r.rest)) is-bytes (omega arith)).0 (ap (drop 1) r.shape) in
    let (message, is_message, left) = (string-form payload _ bytes (be32 flags ++ r.rest) is-bytes (omega arith)).0 behind in
    let (choice, _) = (number_form payload _ flags r.rest is-bytes r.short).0 left in
    record {
      begins = shape_first r.shape;
      carries = record { from = _; to = _; next = _; read = key; is = is_key };
      from = _;
      to = _;
      order = record { next = _; end = _; message = message; choice = choice };
      is_message = is_message;
    }
