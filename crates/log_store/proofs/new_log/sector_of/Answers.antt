use Rattle.std.proofs.Common.{refl}
use Rattle.log_store.specs.Sectors.{sector_title}
use Rattle.log_store.proofs.Sectoring.{sector-put}
use Rattle.log_store.proofs.new_log.sector_of.Goals as goal

pub returns : goal.returns
returns c = rw (c.copy_from_slice.ensures.after, c.titled_slot.ensures)
    (sector-put sector_title c.args.slot.now _ refl)
