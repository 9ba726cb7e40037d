-- What the search for entries that are alike goes by: entries that lie in the store, and the short number of each blob.
use Rattle.std.specs.Prelude.{◌≡◌, length, take}
use Rattle.wire.specs.Limits.{entries_limit, store_size}
use Rattle.table.specs.Entries.{shown, count_of}
use Rattle.table.specs.Soundness.{HousedIn, shorts_in}
use Rattle.soundness.specs.declared.apart.Entries.{Entries}
use Rattle.soundness.specs.Rising.{rising}

pub record Shortened (e : Entries) : Type 0 where
  pub housed : HousedIn (shown e.t) e.store.now
  pub sized : length e.store.now ≡ store_size
  pub counted : e.n ≡ count_of e.t.numbers.now
  pub long : length e.shorts.now ≡ entries_limit
  pub shorts_are : take e.n e.shorts.now ≡ shorts_in e.t.blob_lens.now e.t.fields_lens.now e.t.comment_lens.now e.n e.store.now
  pub rises_is : e.rises ≡ rising (take e.n e.t.numbers.now)
