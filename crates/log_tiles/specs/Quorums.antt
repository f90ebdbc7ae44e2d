-- Clients that trust a head which enough witnesses signed.
use Rattle.std.specs.Prelude.{ℕ, List, Contains}
use Rattle.log_tiles.specs.Histories.{AreOfOneLog}
use Rattle.log_tiles.specs.declared.following.Head.{Head}

-- The heads that an honest witness signed, the last one first, are those that a follower accepted.
abbrev pub AreHonest : (ℕ → List Head) → List ℕ → Type 0
AreHonest signed honest = (witness : ℕ) → Contains honest witness → AreOfOneLog (signed witness)

-- All witnesses of some set of a policy signed the head.
abbrev pub IsSignedBy : (ℕ → List Head) → List (List ℕ) → Head → Type 0
IsSignedBy signed policy head = (set : List ℕ) × Contains policy set
    × ((witness : ℕ) → Contains set witness → Contains (signed witness) head)

-- Each set of one policy and each of the other have an honest witness in common.
abbrev pub Meet : List ℕ → List (List ℕ) → List (List ℕ) → Type 0
Meet honest p q = (first second : List ℕ) → Contains p first → Contains q second
    → (witness : ℕ) × Contains honest witness × Contains first witness × Contains second witness
