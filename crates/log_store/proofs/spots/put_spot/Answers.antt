use Rattle.std.proofs.Common.{sym, subst}
use Rattle.log_store.specs.Spots.{AreMore, AreSpotsOf, IsRead}
use Rattle.log_store.proofs.Spotted.{own-more, read-last, read-more}
use Rattle.log_store.proofs.spots.put_spot.Goals as goal

pub returns-in-Ok-clause-own : goal.returns-in-Ok-clause-own
returns-in-Ok-clause-own g c = λ digests is own.
    subst (λ l. AreSpotsOf l digests) (sym c.in-Ok.ensures.items) (own-more c.args.spots.now.items _ digests own is)

pub returns-in-Ok-clause-read : goal.returns-in-Ok-clause-read
returns-in-Ok-clause-read g c =
    subst (λ l. IsRead l c.args.position) (sym c.in-Ok.ensures.items) (read-last c.args.spots.now.items _)

pub returns-in-Ok-clause-more : goal.returns-in-Ok-clause-more
returns-in-Ok-clause-more g c =
    subst (AreMore c.args.spots.now.items) (sym c.in-Ok.ensures.items) (read-more c.args.spots.now.items _)
