use Rattle.std.proofs.Common.{map, subst, sym}
use Rattle.log_checkpoints.specs.Adding.{IsOfOrigin}
use Rattle.log_checkpoints.proofs.Choosing.{found-listed, never-unknown, of-none}
use Rattle.log_checkpoints.proofs.adding.log_of_request.Goals as goal
use Rattle.signed_notes.specs.LogListViews.{listed_parts}

pub returns-in-Some-clause-listed : goal.returns-in-Some-clause-listed
returns-in-Some-clause-listed c =
    (found-listed (map listed_parts c.args.logs.now) c.in-Ok.origin.now (listed_parts c.in-Some.log)
    c.in-Some.ensures).0

pub returns-in-Some-clause-found : goal.returns-in-Some-clause-found
returns-in-Some-clause-found c =
    let found = found-listed (map listed_parts c.args.logs.now) c.in-Ok.origin.now (listed_parts c.in-Some.log)
    c.in-Some.ensures in
    subst (λ origin. IsOfOrigin origin c.args.request.now) (sym found.1) c.in-Ok.ensures.found

pub returns-in-Some-clause-known : goal.returns-in-Some-clause-known
returns-in-Some-clause-known c =
    let found = found-listed (map listed_parts c.args.logs.now) c.in-Ok.origin.now (listed_parts c.in-Some.log)
    c.in-Some.ensures in
    never-unknown c.in-Some.log.origin.now c.args.request.now
    (subst (λ origin. IsOfOrigin origin c.args.request.now) (sym found.1) c.in-Ok.ensures.found)

pub returns-in-None-clause-refused : goal.returns-in-None-clause-refused
returns-in-None-clause-refused c =
    of-none (map listed_parts c.args.logs.now) c.in-Ok.origin.now c.args.request.now c.in-Ok.ensures.found
    c.in-None.ensures
