-- What decides whether bytes are a cosignature.
use Rattle.std.proofs.Common.{◌≡◌, ℕ, Bool, List, length, take, drop, ap, subst, ◌∙◌}
use Rattle.std.specs.Bool.{Decides}
use Rattle.std.specs.Int.{w64, from_be_bytes}
use Rattle.ed25519.specs.Signatures.{IsSignature}
use Rattle.signed_notes.specs.Cosignatures.{IsCosignature, cosigned, time_of}

decides-parts : (key text bytes : List ℕ) (r : Bool) → length bytes ≡ 72
    → Decides r (IsSignature key (cosigned (time_of bytes) text) (drop 8 bytes)) → Decides r
    (IsCosignature key text bytes)
decides-parts key text bytes r long decides =
    (λ e. record { long = long; signed = decides.0 e }, λ is. decides.1 is.signed)

pub decides-cosignature : (key text bytes message front back : List ℕ) (time : ℕ) (r : Bool) → length bytes ≡ 72
    → front ≡ take 8 bytes → back ≡ drop 8 bytes → time ≡ from_be_bytes w64 front → message ≡ cosigned time text
    → Decides r (IsSignature key message back) → Decides r (IsCosignature key text bytes)
decides-cosignature key text bytes message front back time r long front_is back_is time_is message_is decides =
    let at : time ≡ time_of bytes = time_is ∙ ap (from_be_bytes w64) front_is in
    let whole : message ≡ cosigned (time_of bytes) text = message_is ∙ ap (λ t. cosigned t text) at in
    decides-parts key text bytes r long
    (subst (λ m. Decides r (IsSignature key m (drop 8 bytes))) whole
    (subst (λ b. Decides r (IsSignature key message b)) back_is decides))
