-- The identities reader: "payload empty or not type 12: count 0. Else all items must be whole, comments UTF-8".
use Rattle.std.specs.Prelude.{ℕ, zero, suc, ◌-◌, List, [], Result, Ok, Err, Bool, false, cond, length, get_or, leb, ltb, eqb}
use Rattle.wire.specs.Texts.{bytes}
use Rattle.wire.specs.Read.{cut_of, cut_from, same, number_at, string_at, text_at}
use Rattle.wire.specs.Steps.{faulted, number, part}
use Rattle.wire.specs.declared.read.Fault.{Fault}
use Rattle.wire.specs.declared.refusal.Refusal.{Refusal}
use Rattle.wire.specs.declared.refusal.Refusal.TheVariants.{Malformed, NoSuchItem}
use Rattle.readers.specs.declared.identities.Blob.{Blob}
use Rattle.readers.specs.Reaches.{reach}

-- where a number of items ends: each is a blob and a text
unfoldable pub items_at : ℕ → List ℕ → ℕ → Result ℕ Fault
items_at zero s at = Ok at
items_at (suc n) s at =
    part (λ _. faulted at) (string_at s at) λ f t k.
    part faulted (text_at s k.at) λ g u l.
    items_at n s l.at

-- the number of items
unfoldable pub count_of : List ℕ → Result ℕ Refusal
count_of payload =
    cond (ltb 0 (length payload))
    (cond (eqb (get_or payload 0 0) 12)
    (number (λ _. Err (Malformed 1)) (number_at payload 1) λ n k.
    reach (λ at. Err (Malformed at)) (items_at n payload k.at) λ end.
    Ok n)
    (Ok 0))
    (Ok 0)

-- going on with the number of items
unfoldable pub counted : {A : Type 0} → (Refusal → A) → Result ℕ Refusal → (ℕ → A) → A
counted z (Ok n) next = next n
counted z (Err r) next = z r

unfoldable pub ends_in : List ℕ → List ℕ → Bool
ends_in v end = cond (leb (length end) (length v)) (same (cut_of v (length v - length end) (length v)) end) false

-- "a certificate mark if its first string is UTF-8 and ends in `-cert-v01@openssh.com`"
abbrev pub certificate_end : List ℕ
certificate_end = bytes "-cert-v01@openssh.com"

unfoldable pub certificate : List ℕ → Bool
certificate blob = part (λ _. false) (text_at blob 0) λ f t k. ends_in (cut_of blob f t) certificate_end

unfoldable pub item_at : List ℕ → ℕ → Result Blob Refusal
item_at payload at =
    part (λ _. Err (Malformed at)) (string_at payload at) λ f t k.
    Ok (record { from = f; to = t; certificate = certificate (cut_of payload f t) })

-- "item i is handed out as part of the payload"; "identities 12, 16"
unfoldable pub item_of : List ℕ → ℕ → Result Blob Refusal
item_of payload index =
    counted Err (count_of payload) λ count.
    cond (ltb index count)
    (reach (λ at. Err (Malformed at)) (items_at index payload 5) λ at.
    item_at payload at)
    (Err NoSuchItem)

abbrev pub item_blob : List ℕ → Result Blob Refusal → List ℕ
item_blob payload (Ok b) = cut_of payload b.from b.to
item_blob payload (Err r) = []

unfoldable pub blob_of_item : List ℕ → ℕ → List ℕ
blob_of_item payload index = item_blob payload (item_of payload index)

-- where in the payload that part begins; an empty one of a refused item, at the start
abbrev pub item_from : List ℕ → Result Blob Refusal → ℕ
item_from payload (Ok b) = cut_from payload b.from b.to
item_from payload (Err r) = 0

unfoldable pub blob_from : List ℕ → ℕ → ℕ
blob_from payload index = item_from payload (item_of payload index)
