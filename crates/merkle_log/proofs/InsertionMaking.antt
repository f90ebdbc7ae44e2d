-- The frontier that is read of a log's rows, level by level.
use Rattle.std.proofs.Common.{suc, ◌≡◌, ℕ, ◌+◌, ◌-◌, ◌/◌, ◌%◌, ◌<◌, ◌≤◌, ◌^◌, List, [], ◌∷◌, ◌++◌, length, map, take, drop, set, get_or, Ok, arith, ap, subst, sym, ◌∙◌}
use Rattle.std.proofs.lemmas.List.{append-nil, append_assoc, drop-set, get_or-map, get_or-take, length-map, length-take-le, map-set}
use Rattle.ark_base.specs.declared.error.Error.{Error}
use Rattle.ark_base.specs.Outcome.{Outcome, ◌>>=◌}
use Rattle.ark_base.specs.Laws.Steps.{bind_ok, done_injective}
use Rattle.ark_paths.specs.Pair.{Digest}
use Rattle.merkle_log.specs.Frontier.{complete_pairs, frontier, IsFrontier}
use Rattle.merkle_log.specs.Log.{NodeHash}
use Rattle.merkle_log.specs.Stored.{row_pairs, IsStored}
use Rattle.merkle_log.specs.Walk.{joined}
use Rattle.merkle_log.proofs.Above.{there}
use Rattle.merkle_log.proofs.KeptRows.{row_pairs-front}
use Rattle.merkle_log.proofs.Peaks.{frontier-any, frontier-even, frontier-odd}
use Rattle.merkle_log.proofs.Tests.{twice}
use Rattle.merkle_log.proofs.Verdicts.{pow_above}

-- the pairs of a row's first digests
pub pairs-there : (hash : NodeHash) (row next : List Digest) → row_pairs hash row ≡ Ok next
    → complete_pairs (joined hash) (there row) ≡ there next
pairs-there hash [] next is = ap there (done_injective {E = Error} [] next is)
pairs-there hash (a ∷ []) next is = ap there (done_injective {E = Error} [] next is)
pairs-there hash (a ∷ b ∷ row) next is =
    let first = bind_ok (hash a b) (λ c. row_pairs hash row >>= λ next. Ok (c ∷ next)) next is in
    let more = bind_ok (row_pairs hash row) (λ next. Ok (first.0 ∷ next)) next first.2 in
    ap (λ o. o ∷ complete_pairs (joined hash) (there row)) first.1
    ∙ ap (λ l. Ok first.0 ∷ l) (pairs-there hash row more.0 more.1)
    ∙ ap there (done_injective {E = Error} (first.0 ∷ more.0) next more.2)

-- The frontier of the first digests is that of the first ones of a row above, and these behind.
pub record Peaking (hash : NodeHash) (rows : ℕ → List Digest) (size level left : ℕ) (behind : List Digest) : Type 0
  where
    pub at : (empty : Digest) (k : ℕ) → left < 2 ^ k
        → frontier (joined hash) (Ok empty) size (there (take size (rows 0)))
        ≡ frontier (joined hash) (Ok empty) k (there (take left (rows level))) ++ there behind

module _ {hash : NodeHash} {rows : ℕ → List Digest} {size level left : ℕ} {behind : List Digest}
    (p : Peaking hash rows size level left behind) (stored : IsStored hash rows) (inside : left ≤ length (rows level))
  where
    long : length (there {E = Error} (take left (rows level))) ≡ left
    long = length-map {B = Outcome Digest} (take left (rows level)) Ok ∙ length-take-le left (rows level) inside

    above : complete_pairs (joined hash) (there (take left (rows level))) ≡ there (take (left / 2) (rows (suc level)))
    above = pairs-there hash (take left (rows level)) (take (left / 2) (rows (suc level))) (row_pairs-front hash left
        (rows level) (rows (suc level)) (stored.pairs level))

    up : (behind : List Digest) → Peaking hash rows size (suc level) (left / 2) behind → Peaking hash rows size
        (level + 1) (left / 2) behind
    up behind p =
        let e : suc level ≡ level + 1 = omega arith in
        let P : ℕ → Type 0 = λ n. Peaking hash rows size n (left / 2) behind in subst P e p

    pub peaking-even : left % 2 ≡ 0 → Peaking hash rows size (level + 1) (left / 2) behind
    peaking-even even = up behind (record {
      at = λ empty k high. p.at empty (suc k) (omega (arith, high, twice k))
          ∙ ap (λ l. l ++ there behind) (frontier-even (joined hash) (Ok empty) k
          (there (take left (rows level))) (omega (arith, long, even))
          ∙ ap (frontier (joined hash) (Ok empty) k) above);
    })

    pub peaking-odd : left % 2 ≡ 1 → Peaking hash rows size (level + 1) (left / 2)
        (get_or (rows level) (left - 1) [] ∷ behind)
    peaking-odd odd = up (get_or (rows level) (left - 1) [] ∷ behind) (record {
      at = λ empty k high.
          let row = take left (rows level) in
          let last : get_or (there {E = Error} row) (length (there {E = Error} row) - 1) (Ok empty)
          ≡ Ok (get_or (rows level) (left - 1) []) =
          ap (λ n. get_or (there {E = Error} row) (n - 1) (Ok empty)) long
          ∙ get_or-map Ok row (left - 1) [] (Ok empty) (omega (arith, length-take-le left (rows level) inside, odd))
          ∙ ap Ok (get_or-take left (rows level) (left - 1) [] (omega (arith, odd))) in
          p.at empty (suc k) (omega (arith, high, twice k)) ∙ ap (λ l. l ++ there behind) (frontier-odd
          (joined hash) (Ok empty) k (there row) (omega (arith, long, odd))
          ∙ ap (λ l. l ++ (get_or (there {E = Error} row) (length (there {E = Error} row) - 1) (Ok empty) ∷ []))
          (ap (frontier (joined hash) (Ok empty) k) above)
          ∙ ap (λ o. frontier (joined hash) (Ok empty) k (there (take (left / 2) (rows (suc level)))) ++ (o ∷ [])) last)
          ∙ append_assoc (frontier (joined hash) (Ok empty) k (there (take (left / 2) (rows (suc level)))))
          (Ok (get_or (rows level) (left - 1) []) ∷ []) (there behind);
    })

-- a peak is written before those behind it
pub peak-put : {A : Type 0} (numbers : A → Digest) (proof : List A) (at before : ℕ) (peak : A) (seen : Digest)
    → before + 1 ≡ at → at ≤ length proof → seen ≡ numbers peak
    → seen ∷ drop at (map numbers proof) ≡ drop before (map numbers (set proof before peak))
peak-put numbers proof at before peak seen next inside same =
    ap (λ d. d ∷ drop at (map numbers proof)) same
    ∙ ap (λ n. numbers peak ∷ drop n (map numbers proof)) (sym next)
    ∙ sym (ap (drop before) (map-set numbers proof before peak) ∙ drop-set (map numbers proof) before (numbers peak)
    (omega (arith, length-map proof numbers, next, inside)))

-- nothing is read yet
pub peaking-first : (hash : NodeHash) (rows : ℕ → List Digest) (size : ℕ) → size ≤ length (rows 0)
    → Peaking hash rows size 0 size []
peaking-first hash rows size inside = record {
  at = λ empty k high.
      let row = there {E = Error} (take size (rows 0)) in
      let long = length-map {B = Outcome Digest} (take size (rows 0)) Ok ∙ length-take-le size (rows 0) inside in
      frontier-any (joined hash) (Ok empty) size k row (omega (arith, long, pow_above size)) (omega (arith, long, high))
      ∙ sym (append-nil (frontier (joined hash) (Ok empty) k row));
}

-- all is read
pub peaking-last : {hash : NodeHash} {rows : ℕ → List Digest} {size level left : ℕ} {behind : List Digest}
    → Peaking hash rows size level left behind → left ≡ 0 → size ≤ length (rows 0)
    → IsFrontier hash (take size (rows 0)) size behind
peaking-last {hash} {rows} {size} {level} {left} {behind} p none inside =
    let long = length-take-le size (rows 0) inside in record {
      size_is = long;
      peaks_are = λ empty. ap (λ n. frontier (joined hash) (Ok empty) n (there (take size (rows 0)))) long
          ∙ p.at empty 0 (omega (arith, none));
    }
