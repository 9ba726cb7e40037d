-- The definition makes the same tests, column by column, and stops where one of them does. Assumes nothing.
use native.Mathlib.Omega.{arith}
use mathlib.Core.Path.{◌≡◌, ◌∙◌}
use lib.ListN.{drop}
use Rattle.table.specs.Bytes.{all_zero}
use Rattle.table.specs.Soundness.{zero_behind}
use Rattle.soundness.proofs.SoundnessLaws.{zeros_behind, column_behind}
use Rattle.soundness.proofs.unused.is_unused_zero.Goals as goal

pub returns-then-not-are_all : goal.returns-then-not-are_all
unfolding zero_behind
returns-then-not-are_all c =
    let t = c.args.t in
    let numbers : c.are_all.result ≡ all_zero (drop c.args.n t.numbers.now) = c.are_all.ensures ∙ column_behind c.args.n t.numbers.now in
    grind arith

pub returns-then-not-are_all-2 : goal.returns-then-not-are_all-2
unfolding zero_behind
returns-then-not-are_all-2 c =
    let t = c.args.t in
    let numbers : c.are_all.result ≡ all_zero (drop c.args.n t.numbers.now) = c.are_all.ensures ∙ column_behind c.args.n t.numbers.now in
    let readings : c.are_all-2.result ≡ all_zero (drop c.args.n t.readings.now) = c.are_all-2.ensures ∙ column_behind c.args.n t.readings.now in
    grind arith

pub returns-then-not-are_all-3 : goal.returns-then-not-are_all-3
unfolding zero_behind
returns-then-not-are_all-3 c =
    let t = c.args.t in
    let numbers : c.are_all.result ≡ all_zero (drop c.args.n t.numbers.now) = c.are_all.ensures ∙ column_behind c.args.n t.numbers.now in
    let readings : c.are_all-2.result ≡ all_zero (drop c.args.n t.readings.now) = c.are_all-2.ensures ∙ column_behind c.args.n t.readings.now in
    let blobs : c.are_all-3.result ≡ all_zero (drop c.args.n t.blob_lens.now) = c.are_all-3.ensures ∙ column_behind c.args.n t.blob_lens.now in
    grind arith

pub returns-then-not-are_all-4 : goal.returns-then-not-are_all-4
unfolding zero_behind
returns-then-not-are_all-4 c =
    let t = c.args.t in
    let numbers : c.are_all.result ≡ all_zero (drop c.args.n t.numbers.now) = c.are_all.ensures ∙ column_behind c.args.n t.numbers.now in
    let readings : c.are_all-2.result ≡ all_zero (drop c.args.n t.readings.now) = c.are_all-2.ensures ∙ column_behind c.args.n t.readings.now in
    let blobs : c.are_all-3.result ≡ all_zero (drop c.args.n t.blob_lens.now) = c.are_all-3.ensures ∙ column_behind c.args.n t.blob_lens.now in
    let fields : c.are_all-4.result ≡ all_zero (drop c.args.n t.fields_lens.now) = c.are_all-4.ensures ∙ column_behind c.args.n t.fields_lens.now in
    grind arith

pub returns-then-not-are_all-5 : goal.returns-then-not-are_all-5
unfolding zero_behind
returns-then-not-are_all-5 c =
    let t = c.args.t in
    let numbers : c.are_all.result ≡ all_zero (drop c.args.n t.numbers.now) = c.are_all.ensures ∙ column_behind c.args.n t.numbers.now in
    let readings : c.are_all-2.result ≡ all_zero (drop c.args.n t.readings.now) = c.are_all-2.ensures ∙ column_behind c.args.n t.readings.now in
    let blobs : c.are_all-3.result ≡ all_zero (drop c.args.n t.blob_lens.now) = c.are_all-3.ensures ∙ column_behind c.args.n t.blob_lens.now in
    let fields : c.are_all-4.result ≡ all_zero (drop c.args.n t.fields_lens.now) = c.are_all-4.ensures ∙ column_behind c.args.n t.fields_lens.now in
    let comments : c.are_all-5.result ≡ all_zero (drop c.args.n t.comment_lens.now) = c.are_all-5.ensures ∙ column_behind c.args.n t.comment_lens.now in
    grind arith

pub returns-then-not-are_all-6 : goal.returns-then-not-are_all-6
unfolding zero_behind
returns-then-not-are_all-6 c =
    let t = c.args.t in
    let numbers : c.are_all.result ≡ all_zero (drop c.args.n t.numbers.now) = c.are_all.ensures ∙ column_behind c.args.n t.numbers.now in
    let readings : c.are_all-2.result ≡ all_zero (drop c.args.n t.readings.now) = c.are_all-2.ensures ∙ column_behind c.args.n t.readings.now in
    let blobs : c.are_all-3.result ≡ all_zero (drop c.args.n t.blob_lens.now) = c.are_all-3.ensures ∙ column_behind c.args.n t.blob_lens.now in
    let fields : c.are_all-4.result ≡ all_zero (drop c.args.n t.fields_lens.now) = c.are_all-4.ensures ∙ column_behind c.args.n t.fields_lens.now in
    let comments : c.are_all-5.result ≡ all_zero (drop c.args.n t.comment_lens.now) = c.are_all-5.ensures ∙ column_behind c.args.n t.comment_lens.now in
    let seconds : c.are_all-6.result ≡ all_zero (drop c.args.n t.seconds.now) = c.are_all-6.ensures ∙ column_behind c.args.n t.seconds.now in
    grind arith

pub returns-then-not-is_zero : goal.returns-then-not-is_zero
unfolding zero_behind
returns-then-not-is_zero c =
    let t = c.args.t in
    let numbers : c.are_all.result ≡ all_zero (drop c.args.n t.numbers.now) = c.are_all.ensures ∙ column_behind c.args.n t.numbers.now in
    let readings : c.are_all-2.result ≡ all_zero (drop c.args.n t.readings.now) = c.are_all-2.ensures ∙ column_behind c.args.n t.readings.now in
    let blobs : c.are_all-3.result ≡ all_zero (drop c.args.n t.blob_lens.now) = c.are_all-3.ensures ∙ column_behind c.args.n t.blob_lens.now in
    let fields : c.are_all-4.result ≡ all_zero (drop c.args.n t.fields_lens.now) = c.are_all-4.ensures ∙ column_behind c.args.n t.fields_lens.now in
    let comments : c.are_all-5.result ≡ all_zero (drop c.args.n t.comment_lens.now) = c.are_all-5.ensures ∙ column_behind c.args.n t.comment_lens.now in
    let seconds : c.are_all-6.result ≡ all_zero (drop c.args.n t.seconds.now) = c.are_all-6.ensures ∙ column_behind c.args.n t.seconds.now in
    let limited : c.is_zero.result ≡ all_zero (drop c.args.n t.limited.now) = c.is_zero.ensures ∙ zeros_behind c.args.n t.limited.now in
    grind arith

pub returns : goal.returns
unfolding zero_behind
returns c =
    let t = c.args.t in
    let numbers : c.are_all.result ≡ all_zero (drop c.args.n t.numbers.now) = c.are_all.ensures ∙ column_behind c.args.n t.numbers.now in
    let readings : c.are_all-2.result ≡ all_zero (drop c.args.n t.readings.now) = c.are_all-2.ensures ∙ column_behind c.args.n t.readings.now in
    let blobs : c.are_all-3.result ≡ all_zero (drop c.args.n t.blob_lens.now) = c.are_all-3.ensures ∙ column_behind c.args.n t.blob_lens.now in
    let fields : c.are_all-4.result ≡ all_zero (drop c.args.n t.fields_lens.now) = c.are_all-4.ensures ∙ column_behind c.args.n t.fields_lens.now in
    let comments : c.are_all-5.result ≡ all_zero (drop c.args.n t.comment_lens.now) = c.are_all-5.ensures ∙ column_behind c.args.n t.comment_lens.now in
    let seconds : c.are_all-6.result ≡ all_zero (drop c.args.n t.seconds.now) = c.are_all-6.ensures ∙ column_behind c.args.n t.seconds.now in
    let limited : c.is_zero.result ≡ all_zero (drop c.args.n t.limited.now) = c.is_zero.ensures ∙ zeros_behind c.args.n t.limited.now in
    let confirm : c.is_zero-2.result ≡ all_zero (drop c.args.n t.confirm.now) = c.is_zero-2.ensures ∙ zeros_behind c.args.n t.confirm.now in
    grind arith
