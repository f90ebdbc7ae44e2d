use Rattle.std.proofs.Common.{◌≡◌, ◌<◌, ℕ, List, [], length, get_or, Option, Some, None, sym, ◌∙◌, arith}
use Rattle.ark_paths.specs.Pair.{Digest}
use Rattle.log_file.specs.LogFile.{IsLogFile}
use Rattle.log_store.specs.Found.{IsFirst, IsFirstOf}
use Rattle.log_store.specs.Sound.{placed}
use Rattle.log_store.proofs.Sounding.{leaf-placed, log-stored}
use Rattle.log_store.proofs.finding.find.Goals as goal

-- a digest that stands first among those of a file does so among the leaves of its log
first-leaf : (leaves : List Digest) (file : List ℕ) (size : ℕ) (digest : Digest) → IsLogFile leaves file
    → length leaves ≡ size → (found : Option ℕ) → IsFirstOf (placed file 0) size digest found
    → IsFirst leaves digest found
first-leaf leaves file size digest log count = go
  where
    same : (i : ℕ) → i < length leaves → placed file 0 i ≡ get_or leaves i []
    same i below = leaf-placed leaves file i (log-stored leaves file log).keeps below

    go : (found : Option ℕ) → IsFirstOf (placed file 0) size digest found → IsFirst leaves digest found
    go None others = λ i below is. others i (omega (arith, below, count)) (same i below ∙ is)
    go (Some index) first =
        let below : index < length leaves = omega (arith, first.0, count) in (
          below,
          sym (same index below) ∙ first.1,
          λ i less is. first.2 i less (same i (omega (arith, less, below)) ∙ is),
        )

pub returns-in-Ok-clause-first : goal.returns-in-Ok-clause-first
returns-in-Ok-clause-first g c = λ obeys leaves log.
    first-leaf leaves (g.D.Disk.seen c.args.disk.now) c.in_ok-log.log.size c.args.digest.now log
    (c.in_ok-log.ensures.log obeys leaves log).0 c.in-Ok.found
    (c.in-Ok.ensures obeys (c.in_ok-log.ensures.inside obeys))
