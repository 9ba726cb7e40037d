-- What the rule reads from a request is what was given: any reader of bytes and strings finds it, and the rule reads with the same ones.
use Prim.Native.Nat.{ℕ, ◌^◌, ◌<◌}
use mathlib.Core.Path.{◌≡◌, refl, sym, subst}
use mathlib.Core.List.{List, [], ◌∷◌, ◌++◌}
use native.Mathlib.Omega.{arith}
use lib.ListN.{drop}
use Rattle.wire.specs.Numbers.{Bytes, be32}
use Rattle.wire.specs.Read.{byte_at}
use Rattle.wire.specs.Values.{read, number_reads}
use Rattle.wire.specs.Write.{string}
use Rattle.wire.proofs.Laws.{byte_rule, number_rule, whole_of}
use Rattle.wire.proofs.ByteLaws.{bytes-cons, be32-bytes, bytes-string}
use Rattle.rule.specs.Words.{Begins, Carries}
use Rattle.client.specs.Requests.{sign_request}
use Rattle.client.specs.Promises.{Strings, none, one}
use Rattle.client.proofs.RequestRules.{list_found, lock_found, unlock_found, sign_found}
use Rattle.roundtrips.specs.Promises.{ListRead, LockRead, UnlockRead, SignReads, SignRead}

begins_of : (byte : ℕ) (payload : List ℕ) → number_reads (byte_at payload 0) ≡ read byte 1 → Begins byte payload
begins_of byte payload e =
    let is : payload ≡ byte ∷ drop 1 payload = (byte_rule payload 0 byte (drop 1 payload)).1 (e, refl) in
    subst (Begins byte) (sym is) (record { some_byte = omega arith; first = refl })

carries_of : {payload v : List ℕ} {vs : List (List ℕ)} {end : ℕ} → Strings payload 1 (v ∷ vs) end → Carries v payload
carries_of (one _ from to next _ _ _ e is rest) = record { from = from; to = to; next = record { at = next }; read = whole_of _ _ next e; is = is }

pub list_read : ListRead
list_read = begins_of 11 _ list_found.first

pub lock_read : LockRead
lock_read v h l = let r = lock_found v h l in (begins_of 22 _ r.first, carries_of r.strings)

pub unlock_read : UnlockRead
unlock_read v h l = let r = unlock_found v h l in (begins_of 23 _ r.first, carries_of r.strings)

module _ (blob bytes : List ℕ) (flags : ℕ) (small : Bytes (sign_request blob bytes flags)) (short : flags < 2 ^ 32) where
  abbrev payload : List ℕ
  payload = sign_request blob bytes flags

  sign_reads : {end : ℕ} → Begins 13 payload → Strings payload 1 (blob ∷ bytes ∷ []) end → drop end payload ≡ be32 flags → SignReads payload blob bytes flags
  sign_reads begins (one _ f t k _ _ _ e is (one _ g u l _ _ _ d are (none _))) behind = record {
    byte = begins;
    key = record { from = f; to = t; next = record { at = k }; read = whole_of _ _ k e; is = is };
    from = g;
    to = u;
    next = l;
    end = _;
    data_read = d;
    data_is = are;
    flags_read = ((number_rule payload l flags [] small short).0 behind).0;
    form = record { rest = []; short = short; shape = refl };
  }

pub sign_read : SignRead
sign_read blob bytes flags hb hd lb ld lf =
    let r = sign_found blob bytes flags hb hd lb ld in
    let rest : List ℕ = string bytes ++ be32 flags in
    let small = bytes-cons 13 (string blob ++ rest) (omega arith) (bytes-string blob rest hb (bytes-string bytes (be32 flags) hd (be32-bytes flags))) in
    sign_reads blob bytes flags small lf (begins_of 13 _ r.first) r.strings r.behind
