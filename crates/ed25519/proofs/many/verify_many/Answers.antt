use Rattle.std.proofs.Common.{◌≡◌, [], get_or, sym, subst, arith, inl, inr}
use Rattle.std.proofs.lemmas.Bool.{cases_lt}
use Rattle.std.proofs.lemmas.List.{get_or_default}
use Rattle.ed25519.specs.declared.many.Claim.{Claim}
use Rattle.ed25519.specs.Claims.{Holds}
use Rattle.ed25519.proofs.many.verify_many.Goals as goal

-- what a read past the list's end would be
blank : Claim
blank = record {
  key = record { ref_ptr = (0, 0); now = [] };
  message = record { ref_ptr = (0, 0); now = [] };
  signature = record { ref_ptr = (0, 0); now = [] };
}

pub loop-i-preserved : goal.loop-i-preserved
unfolding blank
loop-i-preserved c k e below =
    elim (cases_lt k c.loop-i.i) [
      | inl less ↦ c.loop-i.invariant k e less
      | inr past ↦
          let same : k ≡ c.loop-i.i = omega (arith, below, past) in
          let claims = c.args.claims.now in
          subst (λ j. Holds (get_or claims j e)) (sym same)
          (subst Holds (get_or_default claims c.loop-i.i blank e c.loop-i-test.true)
          (c.verify.ensures.0 c.if-not-verify.false))
    ]
