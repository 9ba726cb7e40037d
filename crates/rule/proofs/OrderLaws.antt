-- Entries that a call leaves stand in the order in which they stood: expiry and removal leave some of them in their order, and what is put in is new.
use Prim.Native.Nat.{ℕ, ◌≤◌, ◌<◌}
use native.Mathlib.Omega.{arith}
use mathlib.Core.Path.{◌≡◌, refl, sym, ap}
use mathlib.Core.Logic.{◌≢◌}
use mathlib.Core.Bool.{Bool, true, false}
use mathlib.Core.List.{List}
use lib.Dec.{ltb}
use lib.ListN.{length}
use borrow.Author.Tests.{ltb-true, ltb-false}
use Rattle.rule.specs.Gateway.{Entry, Gateway, at_clock, later, advance, put_at}
use Rattle.rule.specs.Soundness.{SoundEntry, Distinct}
use Rattle.rule.specs.Rule.{Landing}
use Rattle.rule.specs.Times.{OrderStays}
use Rattle.rule.proofs.Effects.{Effect, leaves, removes, clears, locks, stores}
use Rattle.rule.proofs.PositionLaws.{Holds, every_at, one_position, Fewer, fewer_stood, fewer_none, lasting-fewer, remove_fewer, AfterPut, put_in, stood, put_holds}
use Rattle.rule.proofs.RoomLaws.{place_inside, has_place}
use Rattle.rule.proofs.SoundLaws.{call-keeps}

module _ (e x : Entry) where
  -- wherever both stand, e stands before x
  abbrev InOrder : List Entry → Type 0
  InOrder es = (k l : ℕ) → Holds es k e → Holds es l x → k < l

  distinct-order : (es : List Entry) → Distinct es → (i j : ℕ) → i < j → Holds es i e → Holds es j x → InOrder es
  distinct-order es d i j before h m k l h' m' =
      let p = one_position es d i k e h h' in
      let q = one_position es d j l x m m' in
      omega arith

  fewer_order : {es os : List Entry} → Fewer es os → InOrder es → InOrder os
  fewer_order f order k l h m = by_order (ltb k l) refl
    where
      by_order : (b : Bool) → ltb k l ≡ b → k < l
      by_order true t = ltb-true k l t
      by_order false t =
          let turned : l ≤ k = ltb-false k l t in
          let s = fewer_stood f l k x e turned m h in
          let back = s.order in
          let forth = order s.j s.i s.second s.first in
          absurd (omega arith)

  put_order : (es : List Entry) (i : ℕ) (new : Entry) → i ≤ length es → e ≢ new → x ≢ new → InOrder es → InOrder (put_at i new es)
  put_order es i new inside e-old x-old order k l h m = order k l (old k e e-old (put_holds es i new inside k e h)) (old l x x-old (put_holds es i new inside l x m))
    where
      old : (j : ℕ) (y : Entry) → y ≢ new → AfterPut es i new j y → Holds es j y
      old j y other (put_in _ p) = absurd (other (sym p))
      old j y other (stood _ there) = there

  effect_order : {g after : Gateway} {l : Landing} → e.number < g.next → x.number < g.next → Effect g l after → InOrder g.entries → InOrder after.entries
  effect_order e-taken x-taken (leaves p) order = rw p order
  effect_order {g} e-taken x-taken (removes blob i _ _ p) order = rw p (fewer_order (remove_fewer i g.entries) order)
  effect_order {g} e-taken x-taken (clears _ p) order = rw p (fewer_order (fewer_none g.entries) order)
  effect_order e-taken x-taken (locks passphrase _ _ p) order = rw p order
  effect_order {g} e-taken x-taken (stores new i s _ p) order =
      let number : new.number ≡ g.next = s.number in
      let other : (y : Entry) → y.number < g.next → y ≢ new = λ y taken same. let q = ap (λ (z : Entry). z.number) same in omega arith in
      rw p (put_order g.entries i new (place_inside (has_place new g.entries i s.place).placed) (other e e-taken) (other x x-taken) order)

pub order_stays : OrderStays
unfolding advance at_clock
order_stays g c i j k l e x sound h m before =
    let taken : (i : ℕ) (y : Entry) → Holds g.entries i y → y.number < g.next
    = λ i y there. (every_at (SoundEntry g.clock g.next) g.entries sound.entries i y there).number_taken in
    let order = distinct-order e x g.entries sound.distinct i j before h m in
    let now = fewer_order e x (lasting-fewer (later g.clock c.reading) g.entries) order in
    call-keeps (λ after. InOrder e x after.entries) g c order now (λ landing after effect. effect_order e x (taken i e h) (taken j x m) effect now) k l
