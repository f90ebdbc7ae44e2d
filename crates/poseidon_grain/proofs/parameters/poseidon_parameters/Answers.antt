use Rattle.std.proofs.Common.{◌+◌, ◌∙◌, refl, sym, subst, map, arith}
use Rattle.std.proofs.lemmas.Result.{err_from_is_err_and}
use Rattle.ark_sponge.specs.Permutation.{Parameters}
use Rattle.poseidon_grain.specs.Constants.{instance_of, AreGenerated, AreParameters}
use Rattle.poseidon_grain.proofs.Made.{made_same}
use Rattle.poseidon_grain.proofs.Shapes.{generated-shape, parameter-fault}
use Rattle.poseidon_grain.proofs.parameters.poseidon_parameters.Goals as goal

pub returns-in_ok-new-in-Some-found-clause-generated : goal.returns-in_ok-new-in-Some-found-clause-generated
returns-in_ok-new-in-Some-found-clause-generated g c =
    let a = c.args in
    let value = g.F.Valued.value in
    let instance = instance_of g.F.Field.MODULUS g.F.Field.MODULUS_BIT_SIZE (a.rate + a.capacity) a.full_rounds
    a.partial_rounds
    a.skip_matrices in
    subst (AreParameters instance a.rate a.capacity a.alpha)
    (made_same g.F.Field.MODULUS_BIT_SIZE (record {
      full_rounds = a.full_rounds;
      partial_rounds = a.partial_rounds;
      alpha = a.alpha;
      mds = map (λ row. map value row.items) c.in-Some-found.mds.items;
      ark = map (λ row. map value row.items) c.in-Some-found.ark.items;
      rate = a.rate;
      capacity = a.capacity;
    }) _ (sym c.new.ensures ∙ c.in_ok-new-in-Some-found.was))
    (record {
      generated =
          subst (λ n. AreGenerated (instance_of g.F.Field.MODULUS g.F.Field.MODULUS_BIT_SIZE n a.full_rounds
          a.partial_rounds a.skip_matrices) (map (λ row. map value row.items) c.in-Some-found.ark.items)
          (map (λ row. map value row.items) c.in-Some-found.mds.items)) (omega (arith, c.in-Some.ensures))
          (rw c.in-Some-found.is at c.in_ok-found.ensures.generated);
      rate = refl;
      capacity = refl;
      full_rounds = refl;
      partial_rounds = refl;
      alpha = refl;
    })

pub returns-in_err-new-in-Some-found-clause-refused : goal.returns-in_err-new-in-Some-found-clause-refused
returns-in_err-new-in-Some-found-clause-refused g c = λ fits.
    let a = c.args in
    let value = g.F.Valued.value in
    let bits = g.F.Field.MODULUS_BIT_SIZE in
    let instance = instance_of g.F.Field.MODULUS bits (a.rate + a.capacity) a.full_rounds a.partial_rounds
    a.skip_matrices in
    let given : Parameters = record {
      full_rounds = a.full_rounds;
      partial_rounds = a.partial_rounds;
      alpha = a.alpha;
      mds = map (λ row. map value row.items) c.in-Some-found.mds.items;
      ark = map (λ row. map value row.items) c.in-Some-found.ark.items;
      rate = a.rate;
      capacity = a.capacity;
    } in
    let generated : AreGenerated instance given.ark given.mds =
    subst (λ n. AreGenerated (instance_of g.F.Field.MODULUS bits n a.full_rounds a.partial_rounds a.skip_matrices)
    given.ark given.mds) (omega (arith, c.in-Some.ensures))
    (rw c.in-Some-found.is at c.in_ok-found.ensures.generated) in
    let shaped = generated-shape instance given generated refl refl refl in
    let error = c.in_err-new-in-Some-found.field-0.0 in
    let fault = parameter-fault bits given shaped error (sym c.new.ensures ∙ c.in_err-new-in-Some-found.was) in
    let passed = err_from_is_err_and c.from_residual-in_err-new-in-Some-found.result
    c.from_residual-in_err-new-in-Some-found.ensures.1 in
    rw (passed.1, passed.2) fault
