-- What every add request as the draft writes it brings, every entry that a call stores has, and no other row stores one: so runs keep it.
use Prim.Native.Nat.{ℕ, suc}
use mathlib.Core.Path.{sym, subst}
use mathlib.Core.Bool.{Bool, true, false}
use mathlib.Core.List.{List, [], ◌∷◌, ◌++◌}
use Rattle.wire.specs.Numbers.{Bytes}
use Rattle.wire.specs.Abnf.{Octets}
use Rattle.wire.specs.Texts.{bytes}
use Rattle.wire.specs.Write.{string}
use Rattle.wire.proofs.ByteLaws.{bytes-append, bytes-split}
use Rattle.keys.specs.Forms.{ecdsa_type, ed25519_key, ecdsa_key, rsa_key, Ecdsa, Curve, KeyFields, as_ed25519, as_nistp256, as_nistp384, as_nistp521, as_rsa}
use Rattle.rule.specs.declared.Millis.{Millis}
use Rattle.rule.specs.Gateway.{Entry, Gateway, fresh, at_clock, later, advance, NewKey}
use Rattle.rule.specs.Soundness.{EveryEntry}
use Rattle.rule.specs.Rule.{listing, removing_all}
use Rattle.rule.specs.Calls.{lent, Call, Result, follow, call}
use Rattle.rule.specs.Runs.{end_of}
use Rattle.rule.specs.Words.{Begins, at_call, payload_of}
use Rattle.rule.specs.Rows.{Row, list, add, add_constrained, remove, remove_all, sign, lock, unlock}
use Rattle.rule.specs.Adding.{add_byte, AddRequest, made_by}
use Rattle.rule.specs.Comments.{CallsKeepText, CallsKeepBytes, BytesIn, TextFromFresh, BytesFromFresh}
use Rattle.rule.proofs.PositionLaws.{fewer_every, lasting-fewer, remove_fewer, put_every}
use Rattle.rule.proofs.RoomLaws.{place_inside, has_place}
use Rattle.rule.proofs.RowLaws.{body_result, rows_cases}
use Rattle.rule.proofs.RequestLaws.{add_in}
use Rattle.rule.proofs.BodyLaws.{removing-cases, locking-cases, unlocking-cases, adding-cases, signing-cases, add_result}
use Rattle.rule.proofs.AddLaws.{read_entry, read_made}

-- ## Calls

module _ (P : Entry → Type 0) where
  abbrev Has : Gateway → Type 0
  Has g = EveryEntry P g.entries

  pub advance-has : (r : Millis) (g : Gateway) → Has g → Has (advance r g)
  unfolding advance at_clock
  advance-has r g h = fewer_every P (lasting-fewer (later g.clock r) g.entries) h

  module _ (g : Gateway) (c : Call) (small : Bytes (payload_of c)) (brings : (k : NewKey) → AddRequest (payload_of c) k → P (made_by g c k)) (before : Has g) where
    abbrev Keeps : Result → Type 0
    Keeps r = Has r.gateway

    now : Has (at_call g c)
    now = advance-has c.reading g before

    add_keeps : (constrained : Bool) → Begins (add_byte constrained) (payload_of c) → Keeps (add_result constrained g c)
    add_keeps constrained begins =
        adding-cases (lent c.answers) (at_call g c) (payload_of c) Keeps now constrained (λ carried i _ _. now) λ carried i read storable _.
        let (k, request, r) = add_in (payload_of c) small constrained carried begins read in
        let new : P (read_entry g c carried) = subst P (sym (read_made g c carried k r.brings)) (brings k request) in
        let inside = place_inside (has_place (read_entry g c carried) (at_call g c).entries i storable.place).placed in
        put_every (at_call g c).entries i (read_entry g c carried) inside P new now

    row_keeps : {byte : ℕ} {needs : Bool} {class : ℕ} (r : Row byte needs class) → Begins byte (payload_of c) → Keeps (body_result r g c)
    unfolding listing removing_all follow
    row_keeps list begins = now
    row_keeps add begins = add_keeps false begins
    row_keeps add_constrained begins = add_keeps true begins
    row_keeps remove begins =
        removing-cases (lent c.answers) (at_call g c) (payload_of c) Keeps now λ i e _.
        fewer_every P (remove_fewer i (at_call g c).entries) now
    row_keeps remove_all begins = tt
    row_keeps sign begins =
        signing-cases (lent c.answers) (at_call g c) (payload_of c) Keeps (λ _. now) (λ _. now)
        (λ i e _ _. now)
        (λ i e from to flags _ _ _. now)
        (λ i e from to flags blob _ _ _ _. now)
    row_keeps lock begins = locking-cases (lent c.answers) (at_call g c) (payload_of c) Keeps now (λ passphrase. now)
    row_keeps unlock begins = unlocking-cases (lent c.answers) (at_call g c) (payload_of c) Keeps now (λ passphrase. now)

    call-has : Has (call g c).gateway
    call-has =
        rows_cases Keeps g c (λ n _. before) (λ _. now) (λ byte needs class _ _ _ _ _. now) (λ byte needs class r begins _ _. row_keeps r begins)

  run_has : ((g : Gateway) (c : Call) → Bytes (payload_of c) → Has g → Has (call g c).gateway) → (g : Gateway) (cs : List Call) → BytesIn cs → Has g → Has (end_of g cs)
  unfolding end_of
  run_has step g [] small h = h
  run_has step g (c ∷ cs) small h = run_has step (call g c).gateway cs small.1 (step g c small.0 h)

-- ## Comments

pub calls_keep_text : CallsKeepText
calls_keep_text g c small = call-has (λ e. Octets e.comment) g c small (λ k request. request.text)

pub text_from_fresh : TextFromFresh
text_from_fresh cs small = run_has (λ e. Octets e.comment) calls_keep_text fresh cs small tt

-- ## Blobs: each is put together from strings of its fields

ecdsa_bytes : {curve : Curve} {fields blob : List ℕ} → Ecdsa curve fields blob → Bytes fields → Bytes blob
ecdsa_bytes {curve} (ecdsa_key q d n _ _ _ _) h =
    let type = string (ecdsa_type curve) in
    let name = string curve.name in
    let point = string (4 ∷ q) in
    let (of-type, rest) = bytes-split type (name ++ (point ++ string d)) h in
    let (of-name, rest) = bytes-split name (point ++ string d) rest in
    let (of-point, _) = bytes-split point (string d) rest in
    bytes-append type (name ++ point) of-type (bytes-append name point of-name of-point)

blob_bytes : {fields blob : List ℕ} → KeyFields fields blob → Bytes fields → Bytes blob
blob_bytes (as_ed25519 (ed25519_key a seed _ _)) h =
    let type = string (bytes "ssh-ed25519") in
    let (of-type, rest) = bytes-split type (string a ++ string (seed ++ a)) h in
    let (of-a, _) = bytes-split (string a) (string (seed ++ a)) rest in
    bytes-append type (string a) of-type of-a
blob_bytes (as_nistp256 k) h = ecdsa_bytes k h
blob_bytes (as_nistp384 k) h = ecdsa_bytes k h
blob_bytes (as_nistp521 k) h = ecdsa_bytes k h
blob_bytes (as_rsa (rsa_key n e d iqmp p q _ _ _ _ _ _)) h =
    let type = string (bytes "ssh-rsa") in
    let private = string d ++ (string iqmp ++ (string p ++ string q)) in
    let (of-type, rest) = bytes-split type (string n ++ (string e ++ private)) h in
    let (of-n, rest) = bytes-split (string n) (string e ++ private) rest in
    let (of-e, _) = bytes-split (string e) private rest in
    bytes-append type (string e ++ string n) of-type (bytes-append (string e) (string n) of-e of-n)

request_bytes : {payload : List ℕ} {k : NewKey} → AddRequest payload k → Bytes payload → Bytes k.blob
request_bytes {payload} {k} r small =
    let all : Bytes (r.byte ∷ (k.fields ++ (string k.comment ++ r.rest))) = subst Bytes r.shape small in
    blob_bytes r.key (bytes-split k.fields (string k.comment ++ r.rest) (λ i. all (suc i))).0

pub calls_keep_bytes : CallsKeepBytes
calls_keep_bytes g c small = call-has (λ e. Bytes e.blob) g c small (λ k request. request_bytes request small)

pub bytes-from_fresh : BytesFromFresh
bytes-from_fresh cs small = run_has (λ e. Bytes e.blob) calls_keep_bytes fresh cs small tt
