-- What may stand in a file where more of its steps are synced may stand there where fewer are.
use Rattle.std.proofs.Common.{zero, suc, ℕ, ◌≤◌, List, [], ◌∷◌, take, drop, inr, arith}
use Rattle.log_file.specs.LogFile.{written}
use Rattle.paxidore_calls.specs.Plan.{IsStopped, carried}
use Rattle.paxidore_calls.specs.declared.file_calls.replay.Step.{Step}

pub stopped-later : (t n : ℕ) → t ≤ n → (xs : List Step) (file left : List ℕ)
    → IsStopped (drop n xs) (carried (take n xs) file) left → IsStopped (drop t xs) (carried (take t xs) file) left
stopped-later zero zero le xs file left stopped = stopped
stopped-later zero (suc n) le [] file left stopped = stopped
stopped-later zero (suc n) le (x ∷ xs) file left stopped =
    inr (stopped-later zero n (omega arith) xs (written file x.at x.bytes.items) left stopped)
stopped-later (suc t) zero le xs file left stopped = absurd (omega arith)
stopped-later (suc t) (suc n) le [] file left stopped = stopped
stopped-later (suc t) (suc n) le (x ∷ xs) file left stopped =
    stopped-later t n (omega arith) xs (written file x.at x.bytes.items) left stopped
