-- Within the limits the search tells where the key goes. Assumes nothing.
use Rattle.std.proofs.Common.{◌+◌, length, refl, sym, ◌∙◌}
use Rattle.rule.specs.Gateway.{lengths_of}
use Rattle.rule.specs.Rule.{brought}
use Rattle.table.specs.Changes.{made}
use Rattle.keeping.proofs.acts.Agent.place_of.Goals as goal

pub returns : goal.returns
unfolding lengths_of
returns c i at =
    let s = c.args.self.now.state in
    let k = brought c.args.payload.now c.args.carried c.args.blob.now in
    let fields = c.cut-fields.ensures.bytes in
    let comment = c.cut-comment.ensures.bytes in
    record {
      sound = c.requires;
      numbers_left = c.if-self-ge-LAST_NUMBER.false;
      lengths = record {
        blob_some = c.if-blob-lt1.false;
        blob_fits = c.if-blob-gt-BLOB_LIMIT.false;
        fields_some = rw (← fields) c.if-fields-lt1.false;
        fields_fit = rw (← fields) c.if-fields-gt-FIELDS_LIMIT.false;
        comment_fits = rw (← comment) c.if-comment-gt-COMMENT_LIMIT.false;
      };
      place = sym (c.place_for.ensures s (made s k)
          (record { numbers_are = refl; blobs_are = refl; fields_are = refl; comments_are = refl })
          c.requires refl (λ j. length k.blob + (length (sym fields j) + length (sym comment j)))) ∙ at;
    }
