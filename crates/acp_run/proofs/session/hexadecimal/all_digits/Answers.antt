use Rattle.std.proofs.Common.{refl}
use Rattle.acp_run.proofs.session.hexadecimal.all_digits.Goals as goal

pub returns : goal.returns
returns c = refl
