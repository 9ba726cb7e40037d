-- The plan goes by the same tests; the place for the blob may take it. Assumes nothing.
use native.Mathlib.Omega.{arith}
use Prim.Native.Nat.{◌+◌}
use lib.ListN.{length}
use mathlib.Core.Path.{◌≡◌, refl, sym, ◌∙◌}
use Rattle.rule.specs.Gateway.{NewKey}
use Rattle.rule.specs.Soundness.{fit}
use Rattle.rule.specs.Rule.{brought}
use Rattle.table.specs.declared.Columns.{Columns}
use Rattle.turnover.proofs.AddSteps.{fits-as, lengths_new, new_short, with_parts, with_place, unfit_ends, last_ends, full_ends, check_asked, check_denied, key-stored}
use Rattle.turnover.proofs.add.store_key.Goals.{After-fits, Start}
use Rattle.turnover.proofs.add.store_key.Goals as goal

abbrev given : Start → Columns
given start = start.args.t.now

abbrev key : Start → NewKey
key start = brought start.args.payload.now start.args.carried start.args.blob.now

-- what the test of the lengths says
fits_told : (c : After-fits) → let k = brought c.args.payload.now c.args.carried c.args.blob.now in c.fits.result ≡ fit k.blob k.fields k.comment
fits_told c =
    let k = brought c.args.payload.now c.args.carried c.args.blob.now in
    fits-as _ _ _ k.fields _ k.comment c.fits.ensures c.cut-fields.ensures.bytes c.cut-text.ensures.bytes

-- the size that the code adds up is the key's
sized-told : (c : After-fits) → let k = brought c.args.payload.now c.args.carried c.args.blob.now in
    lengths_new k ≡ length k.blob + (length c.cut-fields.result.now + length c.cut-text.result.now)
sized-told c =
    let k = brought c.args.payload.now c.args.carried c.args.blob.now in
    let same-fields = c.cut-fields.ensures.bytes in
    let same-comment = c.cut-text.ensures.bytes in
    λ j. length k.blob + (length (sym same-fields j) + length (sym same-comment j))

pub returns-then-not-fits : goal.returns-then-not-fits
returns-then-not-fits c =
    let a = c.args in
    let fits = sym (c.if-not-fits.true) ∙ fits_told (goal.at.returns-then-not-fits c).After-fits in
    unfit_ends (given (goal.at.returns-then-not-fits c).Start) a.store.now a.kept a.check a.reply.now a.payload.now a.carried a.blob.now _ _
    fits c.failure.ensures

pub returns-then-kept-eq-LAST_NUMBER : goal.returns-then-kept-eq-LAST_NUMBER
returns-then-kept-eq-LAST_NUMBER c =
    let a = c.args in
    let fits = sym (c.if-not-fits.false) ∙ fits_told (goal.at.returns-then-kept-eq-LAST_NUMBER c).After-fits in
    last_ends (given (goal.at.returns-then-kept-eq-LAST_NUMBER c).Start) a.store.now a.kept a.check a.reply.now a.payload.now a.carried a.blob.now _ _
    fits c.if-kept-eq-LAST_NUMBER.true c.failure-then-kept-eq-LAST_NUMBER.ensures

-- within the limits the sum does not overflow
pub overflow_add-size : goal.overflow_add-size
overflow_add-size c =
    let fits = sym (c.if-not-fits.false) ∙ fits_told (goal.at.overflow_add-size c).After-fits in
    let all = new_short (key (goal.at.overflow_add-size c).Start) _ (sized-told (goal.at.overflow_add-size c).After-fits) fits in
    record { fits = omega arith }

pub overflow_add-size-2 : goal.overflow_add-size-2
overflow_add-size-2 c =
    let fits = sym (c.if-not-fits.false) ∙ fits_told (goal.at.overflow_add-size-2 c).After-fits in
    let all = new_short (key (goal.at.overflow_add-size-2 c).Start) _ (sized-told (goal.at.overflow_add-size-2 c).After-fits) fits in
    record { fits = omega arith }

pub place_for-requires : goal.place_for-requires
place_for-requires c =
    let fits = sym (c.if-not-fits.false) ∙ fits_told (goal.at.place_for-requires c).After-fits in
    (with_parts (given (goal.at.place_for-requires c).Start) c.args.store.now c.args.kept c.requires.1, new_short (key (goal.at.place_for-requires c).Start) _ (sized-told (goal.at.place_for-requires c).After-fits) fits, omega arith)

pub failure-requires-in-None : goal.failure-requires-in-None
failure-requires-in-None c =
    let long = c.requires.0 in
    omega (arith, long)

pub failure-requires-in-No : goal.failure-requires-in-No
failure-requires-in-No c =
    let long = c.requires.0 in
    omega (arith, long)

pub put-after-requires : goal.put-after-requires
put-after-requires c =
    let a = c.args in
    let fits = sym (c.if-not-fits.false) ∙ fits_told (goal.at.put-after-requires c).After-fits in
    with_place (given (goal.at.put-after-requires c).Start) a.store.now a.kept c.requires.1 _ (key (goal.at.put-after-requires c).Start) _ _ (sized-told (goal.at.put-after-requires c).After-fits) c.in-Some.is c.place_for.ensures fits c.if-kept-eq-LAST_NUMBER.false

pub success-requires : goal.success-requires
success-requires c =
    let long = c.requires.0 in
    omega (arith, long)

pub returns-in-None : goal.returns-in-None
returns-in-None c =
    let a = c.args in
    let fits = sym (c.if-not-fits.false) ∙ fits_told (goal.at.returns-in-None c).After-fits in
    full_ends (given (goal.at.returns-in-None c).Start) a.store.now a.kept a.check a.reply.now a.payload.now a.carried a.blob.now _ _
    fits c.if-kept-eq-LAST_NUMBER.false _ (sized-told (goal.at.returns-in-None c).After-fits) _ c.place_for.ensures c.in-None.is c.failure-in-None.ensures

pub returns-in-Missing : goal.returns-in-Missing
returns-in-Missing c =
    let a = c.args in
    let fits = sym (c.if-not-fits.false) ∙ fits_told (goal.at.returns-in-Missing c).After-fits in
    check_asked (given (goal.at.returns-in-Missing c).Start) a.store.now a.kept a.check a.reply.now a.payload.now a.carried a.blob.now _ _
    fits c.if-kept-eq-LAST_NUMBER.false _ (sized-told (goal.at.returns-in-Missing c).After-fits) _ c.place_for.ensures _ c.in-Some.is c.in-Missing.is refl refl

pub returns-in-No : goal.returns-in-No
returns-in-No c =
    let a = c.args in
    let fits = sym (c.if-not-fits.false) ∙ fits_told (goal.at.returns-in-No c).After-fits in
    check_denied (given (goal.at.returns-in-No c).Start) a.store.now a.kept a.check a.reply.now a.payload.now a.carried a.blob.now _ _
    fits c.if-kept-eq-LAST_NUMBER.false _ (sized-told (goal.at.returns-in-No c).After-fits) _ c.place_for.ensures _ c.in-Some.is c.in-No.is c.failure-in-No.ensures

pub returns-in-Yes : goal.returns-in-Yes
returns-in-Yes c =
    let a = c.args in
    let fits = sym (c.if-not-fits.false) ∙ fits_told (goal.at.returns-in-Yes c).After-fits in
    let u = c.put-after.new.t in
    key-stored (given (goal.at.returns-in-Yes c).Start) a.store.now a.kept a.check a.reply.now a.payload.now a.carried a.blob.now _ _
    fits c.if-kept-eq-LAST_NUMBER.false _ (sized-told (goal.at.returns-in-Yes c).After-fits) _ c.place_for.ensures _ c.in-Some.is c.in-Yes.is
    u c.put-after.new.store c.put-after.result c.put-after.ensures c.success.ensures
