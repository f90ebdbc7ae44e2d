use Rattle.std.proofs.Common.{◌≡◌, IfOk, true, refl, subst}
use Rattle.merkle_map.specs.Bytes.{itself}
use Rattle.merkle_map.specs.KeyProof.{proof_seen, BindsBy}
use Rattle.merkle_map.specs.Parts.{value_seen}
use Rattle.examples.proofs.directory.is_newest.Goals as goal

pub returns : goal.returns
returns c = record {
  bound = λ is.
      let bound = subst (λ h. IfOk c.verify.result (λ accepted. accepted ≡ true → BindsBy h c.args.root.now
      c.args.key.now (value_seen (λ v. v.now) c.args.value) (proof_seen itself c.args.proof.now)))
      c.new.ensures.hashes c.verify.ensures.bound in
      (rw is at bound) refl;
}
