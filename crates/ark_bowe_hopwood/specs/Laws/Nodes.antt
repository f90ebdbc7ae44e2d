-- The laws of hashes of two nodes.
use Rattle.std.proofs.Common.{◌≡◌, ℕ, List, map}
use Rattle.std.specs.Prelude.{nat_lt, ◌*◌, length}
use Rattle.std.specs.declared.vec.Vec.{Vec}
use Rattle.ark_base.specs.Outcome.{IsDecided}
use Rattle.ark_base.specs.Laws.Outcomes.{tested-decided}
use Rattle.ark_groups.specs.Group.{Group}
use Rattle.ark_pedersen.specs.Pedersen.{has_shape, lists_in}
use Rattle.ark_pedersen.specs.Laws.Pedersen.{lists_in-same}
use Rattle.ark_pedersen.specs.declared.window.Window.{Ghosts as Windows}
use Rattle.ark_bowe_hopwood.specs.Nodes.{Leveled, node_bits, node_hash}

-- no refusal is `OutOfMemory`
pub node-decided : {G W : Type 0} (g : Group G) (coordinate : G → ℕ) (windows : Windows W) (lists : List (List G))
    (level left right : ℕ) → IsDecided (node_hash g coordinate windows lists level left right)
node-decided g coordinate windows lists level left right =
    tested-decided (nat_lt level 64) _ _
    (tested-decided (nat_lt (3 * (windows.WINDOW_SIZE * windows.NUM_WINDOWS)) (length (node_bits level left right))) _ _
    (λ same. cc)
    (tested-decided (has_shape windows.NUM_WINDOWS windows.WINDOW_SIZE lists) _ _ tt (λ same. cc)))
    (λ same. cc)

-- parameters of one level and the same lists are seen alike
pub leveled-alike : {G : Type 0} {level level' : ℕ} {lists lists' : List (List G)} → level ≡ level' → lists ≡ lists'
    → ◌≡◌ {A = Leveled G} (record { level = level; lists = lists }) (record { level = level'; lists = lists' })
leveled-alike {G} e h i = record { level = e i; lists = h i }

-- and so are those with the same canonical values
pub leveled-read_back : {G V Z : Type 0} (view : G → V) → ((x y : G) → view x ≡ view y → x ≡ y)
    → (k l : ℕ) (p q : List (Vec G Z))
    → ◌≡◌ {A = ℕ × List (List V)} (k, map (λ (list : Vec G Z). map view list.items) p)
    (l, map (λ (list : Vec G Z). map view list.items) q)
    → ◌≡◌ {A = Leveled G} (record { level = k; lists = lists_in p }) (record { level = l; lists = lists_in q })
leveled-read_back view alone k l p q e =
    leveled-alike (λ i. (e i).0) (lists_in-same view alone p q (λ i. (e i).1))
