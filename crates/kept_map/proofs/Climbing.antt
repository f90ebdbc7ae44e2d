-- Proofs of what a tree in memory has at a key.
use Rattle.std.proofs.Common.{◌≡◌, ◌<◌, ◌+◌, ◌*◌, ℕ, suc, Bool, true, false, List, [], ◌∷◌, ◌++◌, length, take, drop, Ok, Err, Result, IfErr, IfOk, IsErrAnd, if◌then◌else◌, arith, refl, ap, sym, ◌∙◌, subst, append-nil, length-append}
use Rattle.std.proofs.lemmas.List.{get_or-take, length-take}
use Rattle.merkle_map.specs.Changes.{entry_of, known_at}
use Rattle.merkle_map.specs.Kept.{IsShownIn, IsTreeOf}
use Rattle.merkle_map.specs.KeyProof.{AtNothing, EndSeen, ProofSeen, behind_all, end_at, proof_at, seen_with}
use Rattle.merkle_map.specs.Map.{Digest, Entry, Key, MapHashes, bit_of, value_at}
use Rattle.merkle_map.specs.Tree.{Shape, One, StandsAt, way}
use Rattle.merkle_map.specs.Whole.{entries_of}
use Rattle.merkle_map.specs.declared.proof.End.{End}
use Rattle.merkle_map.proofs.Keeping.{store-found}
use Rattle.merkle_map.proofs.OwnProof.{accepts, behind_none, down-on}
use Rattle.merkle_map.proofs.Wholes.{root-of-store}
use Rattle.kept_map.specs.Digests.{IsDigestAt, IsProofAt}
use Rattle.kept_map.specs.KeptMap.{KeepsMap, LaidAt, entry_in, left_at, right_at}
use Rattle.kept_map.specs.declared.head.Head.{Head}
use Rattle.kept_map.specs.declared.prove.ProveFault.{ProveFault}
use Rattle.kept_map.proofs.UnderHeads.{lies-under}
use Rattle.kept_map.proofs.Lies.{lies-entry, lies-fork, lies-nothing}

-- the entry of a number, among all entries
pub lies-one : (h : MapHashes) (entries forks : List (List ℕ)) (first count number k : ℕ) (tree : Shape)
    → number ≡ 2 * k + 1 → LaidAt h (take first entries) forks count number tree → tree ≡ One (entry_in entries k)
lies-one h entries forks first count number k tree e lies =
    let there = lies-entry h (take first entries) forks count number k tree e lies in
    let within = there.0 in
    let long = length-take first entries in
    let inside : k < first = omega (arith, within, long) in
    there.1
    ∙ ap (λ (bytes : List ℕ). One (entry_of (take 32 bytes) (drop 32 bytes))) (get_or-take first entries k [] inside)

module _ (h : MapHashes) (entries forks : List (List ℕ)) (number : ℕ) (key : Key) (above : List Digest) where
  -- with no digests more
  ended : (tree : Shape) (end : EndSeen)
      → proof_at h (length above) key tree ≡ Ok (record { end = end; siblings = [] })
      → behind_all above (proof_at h (length above) key tree) ≡ Ok (record { end = end; siblings = above })
  ended tree end is = ap (behind_all above) is
      ∙ ap (λ (l : List Digest). Ok (record { end = end; siblings = l })) (append-nil above)

  pub proof-nothing : number ≡ 0 → IsProofAt h entries forks number key above
      (record { end = AtNothing; siblings = above })
  proof-nothing e = λ first count tree lies.
      ended tree AtNothing (ap (proof_at h (length above) key)
      (lies-nothing h (take first entries) forks count number tree e lies))

  pub proof-entry : (k : ℕ) (end : EndSeen) → number ≡ 2 * k + 1 → end ≡ end_at key (entry_in entries k)
      → IsProofAt h entries forks number key above (record { end = end; siblings = above })
  proof-entry k end e is = λ first count tree lies.
      ended tree end (ap (proof_at h (length above) key)
      (lies-one h entries forks first count number k tree e lies)
      ∙ ap (λ (end : EndSeen). Ok (record { end = end; siblings = [] })) (sym is))

  pub proof-below : (b : Bool) (k : ℕ) (d : Digest) (proof : ProofSeen) → number ≡ 2 * k + 2
      → bit_of (length above) key ≡ b
      → IsDigestAt h entries forks (if b then left_at forks k else right_at forks k) d
      → IsProofAt h entries forks (if b then right_at forks k else left_at forks k) key (above ++ d ∷ []) proof
      → IsProofAt h entries forks number key above proof
  proof-below true k d proof e bit beside on = λ first count tree lies.
      let it = lies-fork h (take first entries) forks count number k tree e lies in
      down-on h (length above) key it.is true above d bit (beside first k it.left it.on_left)
      ∙ ap (λ n. behind_all (above ++ d ∷ []) (proof_at h n key it.right)) (sym (length-append above (d ∷ [])))
      ∙ on first k it.right it.on_right
  proof-below false k d proof e bit beside on = λ first count tree lies.
      let it = lies-fork h (take first entries) forks count number k tree e lies in
      down-on h (length above) key it.is false above d bit (beside first k it.right it.on_right)
      ∙ ap (λ n. behind_all (above ++ d ∷ []) (proof_at h n key it.left)) (sym (length-append above (d ∷ [])))
      ∙ on first k it.left it.on_left

module _ (h : MapHashes) (entries forks : List (List ℕ)) (key : Key) where
  -- what a call returned goes on from what is above
  pub proof-on : (above after : List Digest) (number side : ℕ) (d : Digest) (result : Result End ProveFault)
      → ((proof : ProofSeen) → IsProofAt h entries forks side key (above ++ d ∷ []) proof
      → IsProofAt h entries forks number key above proof)
      → IfOk result (λ end. IsProofAt h entries forks side key (above ++ d ∷ []) (seen_with after end))
      → IfOk result (λ end. IsProofAt h entries forks number key above (seen_with after end))
  proof-on above after number side d (Ok end) up on = up (seen_with after end) on
  proof-on above after number side d (Err fault) up on = tt

-- a side stands on the key's way
pub side-stands : (level : ℕ) (key : Key) (b : Bool) (side : Shape) → bit_of level key ≡ b
    → StandsAt (b ∷ way level key) side → StandsAt (way (level + 1) key) side
side-stands level key b side bit stands =
    let next : suc level ≡ level + 1 = omega arith in
    subst (λ n. StandsAt (way n key) side) next
    (subst (λ c. StandsAt (c ∷ way level key) side) (sym bit) stands)

-- a proof of what lies under the head is that of the map's tree
pub answer-under : (h : MapHashes) (entries forks : List (List ℕ)) (head : Head) (key : Key) (proof : ProofSeen)
    → IsProofAt h entries forks head.top key [] proof → (xs : List Entry) → KeepsMap h entries forks head xs
    → (tree : Shape) × IsTreeOf xs tree × (proof_at h 0 key tree ≡ Ok proof)
answer-under h entries forks head key proof is xs keeps = (
  keeps.tree,
  keeps.is,
  sym (behind_none (proof_at h 0 key keeps.tree))
      ∙ is head.entries head.forks keeps.tree (lies-under h entries forks head xs keeps),
)

-- the root accepts it
pub shown-under : (h : MapHashes) (entries forks : List (List ℕ)) (head : Head) (key : Key) (proof : ProofSeen)
    → IsProofAt h entries forks head.top key [] proof → (xs : List Entry) → KeepsMap h entries forks head xs
    → IsShownIn h key xs proof
shown-under h entries forks head key proof is xs keeps =
    let own = answer-under h entries forks head key proof is xs keeps in
    let tree = own.0 in
    let stands = own.1.stands in
    let whole = own.1.whole in
    subst (λ xs. IsShownIn h key xs proof) own.1.has
    (λ root is. accepts h key tree proof stands own.2 root (value_at key (entries_of tree))
    (sym (root-of-store h tree stands whole) ∙ is)
    (store-found h tree key stands whole (known_at 0 key tree) refl))

-- an error that is passed on
pub as-before : {A : Type 0} (result : Result A ProveFault) (passed fault : ProveFault)
    → IsErrAnd result (λ f. f ≡ passed) → passed ≡ fault → IfErr result (λ f. f ≡ fault)
as-before (Ok value) passed fault same is = tt
as-before (Err f) passed fault same is = same ∙ is
