use Rattle.std.proofs.Common.{refl}
use Rattle.log_store.proofs.Sectoring.{blanks-written}
use Rattle.log_store.proofs.new_log.blank_sectors.Goals as goal

pub returns : goal.returns
returns c = rw (c.copy_from_slice.ensures.after, c.sector_of.ensures) (blanks-written _ refl)
