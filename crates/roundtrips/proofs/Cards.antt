-- What is written behind the PIN are constraints as the walk takes them, so it takes all, or those before the second lifetime.
use Prim.Native.Nat.{ℕ, ◌+◌, ◌<◌, ◌^◌}
use mathlib.Core.Path.{◌≡◌, refl, sym, ap, ap₂, ◌∙◌}
use mathlib.Core.Bool.{Bool, true, false, ◌||◌}
use mathlib.Core.List.{List, [], ◌∷◌, ◌++◌, append-nil}
use native.Mathlib.Omega.{arith}
use Rattle.std.specs.Prelude.{Some, None}
use lib.ListN.{length, take, length-append}
use Rattle.wire.specs.declared.Seconds.{Seconds}
use Rattle.wire.specs.declared.Constraint.{Constraint}
use Rattle.wire.specs.declared.Constraint.TheVariants.{KeyLifetime, Confirm}
use Rattle.wire.specs.Numbers.{be32}
use Rattle.wire.specs.Constraints.{constraint_forms}
use Rattle.wire.proofs.ByteLaws.{octets_bytes}
use Rattle.keys.specs.Constraints.{Lifetime, walk_of}
use Rattle.keys.specs.Forms.{Adds, none, lifetime, confirm}
use Rattle.keys.specs.Values.{Walked, walk_says}
use Rattle.keys.specs.Promises.{Settles, end, twice}
use Rattle.keys.proofs.SettleLaws.{constraint_rule}
use Rattle.client.specs.Requests.{constrained_smartcard}
use Rattle.client.proofs.ConstraintLaws.{forms_append}
use Rattle.client.proofs.RequestRules.{forms_bytes, smartcard_read, add_smartcard-rule}
use Rattle.client.proofs.WriterTables.{add_smartcard-table}
use Rattle.client.proofs.CardForms.{card_text, card_small}
use Rattle.readers.specs.Promises.{Each}
use Rattle.roundtrips.specs.Promises.{lifetimes_among, confirm_among, GivenBack, CardWalked}

-- ## What constraints add up to

-- without a lifetime they leave it as it is
none_adds : (cs : List Constraint) (l : Lifetime) (c : Bool) → lifetimes_among cs ≡ [] → Adds l c cs l (c || confirm_among cs)
none_adds [] l true e = none l true
none_adds [] l false e = none l false
none_adds (KeyLifetime seconds ∷ cs) l c e = let z : ◌≡◌ {A = ℕ} 0 1 = cc in absurd (omega arith)
none_adds (Confirm ∷ cs) l true e = confirm true (none_adds cs l true e)
none_adds (Confirm ∷ cs) l false e = confirm false (none_adds cs l true e)

-- with one they give it
one_adds : (cs : List Constraint) (c : Bool) (n : ℕ) → n < 2 ^ 32 → lifetimes_among cs ≡ n ∷ [] → Adds None c cs (Some (record { count = n })) (c || confirm_among cs)
one_adds [] c n small e = let z : ◌≡◌ {A = ℕ} 0 1 = cc in absurd (omega arith)
one_adds (KeyLifetime seconds ∷ cs) c n small e =
    let is : seconds.count ≡ n = cc in
    let others : lifetimes_among cs ≡ [] = cc in
    rw (← is) (lifetime seconds (rw is small) (none_adds cs (Some seconds) c others))
one_adds (Confirm ∷ cs) true n small e = confirm true (one_adds cs true n small e)
one_adds (Confirm ∷ cs) false n small e = confirm false (one_adds cs true n small e)

-- ## The lifetime behind those with these seconds

record Behind (cs : List Constraint) (ns : List ℕ) : Type 0 where
  before : List Constraint
  seconds : Seconds
  rest : List Constraint
  among : cs ≡ before ++ (KeyLifetime seconds ∷ rest)
  lifetimes : lifetimes_among before ≡ ns

-- one constraint more in front
in_front : (c : Constraint) {cs : List Constraint} {ns ms : List ℕ} (b : Behind cs ns) → lifetimes_among (c ∷ b.before) ≡ ms → Behind (c ∷ cs) ms
in_front c b e = record { before = c ∷ b.before; seconds = b.seconds; rest = b.rest; among = ap (λ (l : List Constraint). c ∷ l) b.among; lifetimes = e }

first : (cs : List Constraint) (n : ℕ) (ns : List ℕ) → lifetimes_among cs ≡ n ∷ ns → Behind cs []
first [] n ns e = let z : ◌≡◌ {A = ℕ} 0 1 = cc in absurd (omega arith)
first (KeyLifetime seconds ∷ cs) n ns e = record { before = []; seconds = seconds; rest = cs; among = refl; lifetimes = refl }
first (Confirm ∷ cs) n ns e = let b = first cs n ns e in in_front Confirm b b.lifetimes

second : (cs : List Constraint) (n m : ℕ) (ns : List ℕ) → lifetimes_among cs ≡ n ∷ m ∷ ns → Behind cs (n ∷ [])
second [] n m ns e = let z : ◌≡◌ {A = ℕ} 0 1 = cc in absurd (omega arith)
second (KeyLifetime seconds ∷ cs) n m ns e =
    let is : seconds.count ≡ n = cc in
    let others : lifetimes_among cs ≡ m ∷ ns = cc in
    let b = first cs m ns others in
    in_front (KeyLifetime seconds) b (ap₂ (λ (i : ℕ) (l : List ℕ). i ∷ l) is b.lifetimes)
second (Confirm ∷ cs) n m ns e = let b = second cs n m ns e in in_front Confirm b b.lifetimes

-- ## The walk

module _ (at : ℕ) (cs : List Constraint) where
  abbrev walked : Walked
  walked = walk_says (walk_of at (constraint_forms cs) None false)

  -- constraints that it takes up to the end, or up to what settles it
  takes : (taken : List Constraint) (l : Lifetime) (c : Bool) (rest : List ℕ) (w : Walked) → constraint_forms cs ≡ constraint_forms taken ++ rest → Adds None false taken l c
      → Settles (at + length (constraint_forms taken)) rest l c w → walked ≡ w
  takes taken l c rest w form adds settles = (constraint_rule at (constraint_forms cs) w (forms_bytes cs)).1 (taken, l, c, rest, form, adds, settles)

  given_back : Each (λ s. s < 2 ^ 32) (lifetimes_among cs) → GivenBack cs at walked
  given_back h =
      let all : constraint_forms cs ≡ constraint_forms cs ++ [] = sym (append-nil (constraint_forms cs)) in
      record {
        no_lifetime = λ e. takes cs None (confirm_among cs) [] _ all (none_adds cs None false e) (end None (confirm_among cs));
        one_lifetime = λ n e. takes cs _ (confirm_among cs) [] _ all (one_adds cs false n (rw e at h).0 e) (end (Some (record { count = n })) (confirm_among cs));
        more_lifetimes = λ n m ns e.
            let b = second cs n m ns e in
            let bytes = be32 b.seconds.count ++ constraint_forms b.rest in
            let form : constraint_forms cs ≡ constraint_forms b.before ++ (1 ∷ bytes) = ap constraint_forms b.among ∙ forms_append b.before (KeyLifetime b.seconds ∷ b.rest) in
            record {
              before = b.before;
              seconds = b.seconds;
              rest = b.rest;
              among = b.among;
              one_before = ap length b.lifetimes;
              says = takes b.before _ (confirm_among b.before) (1 ∷ bytes) _ form (one_adds b.before false n (rw e at h).0 b.lifetimes) (twice (record { count = n }) (confirm_among b.before) bytes);
            };
      }

-- ## What was written

pub card_walked : CardWalked
card_walked id pin cs count out n some hp hs granted =
    let taken = take count cs in
    let sent = (add_smartcard-rule id pin cs count out).sent n granted in
    let is = (add_smartcard-table id pin cs count out).some_given some in
    let size = simp length-append at (card_small id pin cs count out n some granted) in
    let short : (length id < 2 ^ 32) × (length pin < 2 ^ 32) = (omega arith, omega arith) in
    let reads = (smartcard_read id pin (octets_bytes (card_text id pin cs count out n some granted)) hp short.0 short.1).constrained taken in
    record {
      payload = constrained_smartcard id pin taken;
      splits = rw is at sent.splits;
      reads = reads;
      walks = rw reads.behind (given_back reads.end taken hs);
    }
