use Rattle.std.proofs.Common.{◌≡◌, ℕ, ◌+◌, ◌-◌, ◌*◌, ◌%◌, ◌∙◌, ap}
use Rattle.ark_groups.specs.Words.{number}
use Rattle.ark_wide_fields.specs.Moduli.{from_form}
use Rattle.ark_wide_fields.specs.Laws.Moduli.{at_least_two}
use Rattle.ark_wide_fields.specs.Laws.Montgomery.{form_made}
use Rattle.ed25519.specs.contracts.moduli.Ed25519FpModulusWideModulus.TheImpl.{ghosts}
use Rattle.ed25519.specs.Edwards25519.{p, d}
use Rattle.ed25519.specs.BaseTable.{in_montgomery_form}
use Rattle.ed25519.proofs.base.prepared.Goals as goal

-- the form of a number is that of this number
told : (e n : ℕ) → e ≡ in_montgomery_form n → from_form p ghosts.INVERSE e ≡ n % p
told e n is =
    ap (from_form p ghosts.INVERSE) is ∙ form_made p ghosts.INVERSE (at_least_two ghosts.laws) ghosts.laws.turned n

pub returns : goal.returns
returns c a of_e =
    let e = c.args.e in
    record {
      less_is = c.of_form.ensures ∙ told (number e.less) (a.y + (p - a.x)) of_e.less;
      more_is = c.of_form-2.ensures ∙ told (number e.more) (a.y + a.x) of_e.more;
      cross_is = c.of_form-3.ensures ∙ told (number e.cross) (2 * d * a.x * a.y) of_e.cross;
    }
