use Rattle.std.proofs.Common.{arith}
use Rattle.ark_wide_fields.specs.Laws.Moduli.{some_bits}
use Rattle.paxidore_calls.proofs.transcript.forms.scaled_len.Goals as goal

pub returns-clause-some : goal.returns-clause-some
returns-clause-some g c = omega (arith, some_bits g.M.WideModulus.laws, c.byte_len.ensures.exact)
