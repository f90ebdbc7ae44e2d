use Rattle.std.proofs.Common.{◌-◌, length, drop, arith}
use Rattle.std.proofs.lemmas.List.{length-drop, take_all}
use Rattle.paxidore_calls.proofs.file_calls.checked.behind_sectors.Goals as goal

pub returns : goal.returns
returns c = take_all (length c.args.file.now - 8192) (drop 8192 c.args.file.now)
    (omega (arith, length-drop 8192 c.args.file.now))
