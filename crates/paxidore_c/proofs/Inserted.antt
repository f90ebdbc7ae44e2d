-- Insertions of elements: what the calls give.
use Rattle.std.proofs.Common.{◌≡◌, ℕ, ◌<◌, List, [], ◌∷◌, length, map, drop, get_or, true, Result, Ok, refl, ap, sym, ◌∙◌}
use Rattle.std.proofs.lemmas.Bool.{lt-ltb}
use Rattle.std.specs.List.{list_all}
use Rattle.std.specs.Prelude.{count_ones}
use Rattle.ark_base.specs.declared.error.Error.{Error}
use Rattle.ark_base.specs.Laws.Steps.{done_injective}
use Rattle.ark_base.specs.Outcome.{Outcome}
use Rattle.ark_base.specs.Digits.{itself}
use Rattle.ark_paths.specs.Pair.{Digest}
use Rattle.ark_sponge.specs.Permutation.{Parameters}
use Rattle.circom.specs.Hash.{is_element, node_outcome}
use Rattle.merkle_log.specs.Frontier.{IsFrontier}
use Rattle.merkle_log.specs.Insertion.{received_insertion}
use Rattle.merkle_log.specs.Kept.{has_front}
use Rattle.merkle_log.specs.Log.{NodeHash}
use Rattle.merkle_log.proofs.Making.{map-itself}
use Rattle.paxidore_calls.specs.Answer.{refusing}
use Rattle.paxidore_calls.specs.KeptLog.{takes}
use Rattle.paxidore_calls.specs.LogProofs.{proof_digests}
use Rattle.paxidore_calls.specs.declared.refused.Refused.{Refused}
use Rattle.paxidore_c.specs.PoseidonInsertion.{if_some_kept, root_inserted}

there-same : (xs ys : List Digest) → map {B = Outcome Digest} Ok xs ≡ map Ok ys → xs ≡ ys
there-same [] [] same = refl
there-same [] (y ∷ ys) same = absurd cc
there-same (x ∷ xs) [] same = absurd cc
there-same (x ∷ xs) (y ∷ ys) same =
    ap (λ d. d ∷ xs) (done_injective {E = Error} x y (ap (λ l. get_or l 0 (Ok [])) same))
    ∙ ap (λ l. y ∷ l) (there-same xs ys (ap (drop 1) same))

-- A list has one frontier.
pub frontier-same : {hash : NodeHash} {list : List Digest} {size : ℕ} {peaks others : List Digest}
    → IsFrontier hash list size peaks → IsFrontier hash list size others → peaks ≡ others
frontier-same {hash} {list} {size} {peaks} {others} one other =
    there-same peaks others (sym (one.peaks_are []) ∙ other.peaks_are [])

pub all-some : {A : Type 0} (size : ℕ) (kept : List Digest) (given : Result A Refused)
    → has_front size (length kept) ≡ true → 0 < size → if_some_kept size kept given ≡ given
all-some size kept given stands some = rw (stands, lt-ltb 0 size some) refl

-- What is given for elements that are inserted, by a hash that is that at the parameters.
pub given-by : (c : Parameters) (hash : NodeHash) → hash ≡ node_outcome c → (root : Digest) (size : ℕ)
    (elements : List Digest) (proof : List ℕ) → 0 < size → takes size (length elements) ≡ true
    → list_all is_element elements ≡ true → root_inserted c root size elements proof ≡ refusing (received_insertion hash
    root size (proof_digests (count_ones size) proof) (map itself elements))
given-by c hash same root size elements proof some fits all =
    rw (lt-ltb 0 size some, fits, all)
    (ap (λ l. refusing (received_insertion (node_outcome c) root size (proof_digests (count_ones size) proof) l))
    (sym (map-itself elements))
    ∙ ap (λ (h : NodeHash). refusing (received_insertion h root size (proof_digests (count_ones size) proof)
    (map itself elements))) (sym same))
