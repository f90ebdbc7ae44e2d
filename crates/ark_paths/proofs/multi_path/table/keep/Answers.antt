use Rattle.std.proofs.Common.{rules}
use Rattle.ark_paths.proofs.Tables.{AreKept-put}
use Rattle.ark_paths.proofs.multi_path.table.keep.Goals as goal

pub returns-clause-kept : goal.returns-clause-kept
returns-clause-kept g c =
    AreKept-put c.args.entries.now.all c.insert.new.self c.args.entries.now.last.items c.put.new.items.items
    (record {
      place = c.args.place;
      entry = record { pair = c.args.pair; digest = c.len-number.result };
    }) c.requires c.in_ok-insert.ensures.updates (search rules)
