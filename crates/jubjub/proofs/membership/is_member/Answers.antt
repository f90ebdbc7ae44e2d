use Rattle.std.proofs.Common.{◌≡◌, ◌-◌, ◌/◌, ◌%◌, ◌^◌, sym, ◌∙◌, ap, true≢false}
use Rattle.std.proofs.lemmas.Nat.{pow-mod}
use Rattle.ark_wide_fields.specs.Laws.Fp256.{wide_equal_if_same}
use Rattle.ark_wide_fields.proofs.PowerSteps.{unless}
use Rattle.jubjub.specs.Jubjub.{p}
use Rattle.jubjub.specs.Membership.{member_value}
use Rattle.jubjub.specs.Values.{value}
use Rattle.jubjub.specs.Laws.Elements.{coordinates_of}
use Rattle.jubjub.specs.Laws.Membership.{powers_tell_members}
use Rattle.jubjub.proofs.membership.is_member.Goals as goal

pub returns-then-is_zero : goal.returns-then-is_zero
returns-then-is_zero c =
    let tells = powers_tell_members.over_zero (coordinates_of c.args.x c.args.y) c.requires
    (c.is_zero.ensures.0 c.if-is_zero.true) in
    let same = wide_equal_if_same c.args.y c.one.result in (
      λ t. tells.1 (same.0 (sym c.eq.ensures ∙ t) ∙ c.one.ensures),
      λ s. c.eq.ensures ∙ same.1 (tells.0 s ∙ sym c.one.ensures),
    )

pub returns-then-is_zero-2 : goal.returns-then-is_zero-2
returns-then-is_zero-2 c = (
  λ t. absurd (true≢false (sym t)),
  λ s. absurd (powers_tell_members.none_at_zero (coordinates_of c.args.x c.args.y) c.requires
      (c.is_zero-2.ensures.0 c.if-is_zero-2.true) s),
)

pub returns : goal.returns
returns c =
    let a = coordinates_of c.args.x c.args.y in
    let tells = powers_tell_members.elsewhere a c.requires
    (unless c.is_zero.result c.is_zero.ensures c.if-is_zero.false)
    (unless c.is_zero-2.result c.is_zero-2.ensures c.if-is_zero-2.false) in
    let same = wide_equal_if_same c.power.result c.from_words.result in
    let power : value c.power.result ≡ member_value a ^ ((p - 1) / 8) % p =
    c.power.ensures ∙ ap (λ n. n ^ ((p - 1) / 8) % p) c.value_at.ensures ∙ pow-mod (member_value a) ((p - 1) / 8) p in (
      λ t. tells.1 (sym power ∙ same.0 (sym c.eq-2.ensures ∙ t) ∙ c.from_words.ensures),
      λ s. c.eq-2.ensures ∙ same.1 (power ∙ tells.0 s ∙ sym c.from_words.ensures),
    )
