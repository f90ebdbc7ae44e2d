-- The laws of commitments: no refusal is `OutOfMemory`, and elements drawn from one stream are the same.
use Rattle.std.proofs.Common.{◌≡◌, sym, ◌∙◌}
use Rattle.std.specs.Prelude.{ℕ, ◌+◌, ◌^◌, ◌==◌, List, length, nat_lt}
use Rattle.ark_base.specs.Outcome.{IsDecided}
use Rattle.ark_base.specs.Laws.Outcomes.{tested-decided}
use Rattle.rand_core.specs.Stream.{Stream}
use Rattle.ark_groups.specs.Group.{Group}
use Rattle.ark_pedersen.specs.Pedersen.{pedersen_hash}
use Rattle.ark_pedersen.specs.Laws.Pedersen.{seen-decided, image-decided, pedersen-decided}
use Rattle.ark_pedersen.specs.declared.window.Window.{Ghosts as Windows}
use Rattle.ark_schemes.specs.Commitments.{blake2s_commitment}
use Rattle.ark_schemes.specs.PedersenCommitments.{Generators, AreAllDrawn, randomness_sum, pedersen_commitment}

pub blake2s_commitment-decided : (bytes randomness : List ℕ) → IsDecided (blake2s_commitment bytes randomness)
blake2s_commitment-decided bytes randomness =
    tested-decided (nat_lt (length bytes + 32) (2 ^ 64)) _ _ tt (λ same. cc)

randomness_sum-decided : {G : Type 0} (g : Group G) (bits : ℕ) (elements : List G) (randomness : ℕ)
    → IsDecided (randomness_sum g bits elements randomness)
randomness_sum-decided g bits elements randomness = tested-decided (length elements == bits) _ _ tt (λ same. cc)

pub pedersen_commitment-decided : {G W : Type 0} (g : Group G) (bits : ℕ) (windows : Windows W) (lists : Generators G)
    (input : List ℕ) (randomness : ℕ) → IsDecided (pedersen_commitment g bits windows lists input randomness)
pedersen_commitment-decided g bits windows lists input randomness =
    image-decided _ (pedersen_hash g windows lists.windows input)
    (λ hash. seen-decided (g.plus hash) (randomness_sum g bits lists.randomness randomness)
    (randomness_sum-decided g bits lists.randomness randomness))
    (pedersen-decided g windows lists.windows input)

pub drawn-alike : {G W : Type 0} (g : Group G) (draw : Stream → G × Stream) (bits : ℕ) (windows : Windows W)
    (stream : Stream) (p q : Generators G)
    → AreAllDrawn g draw bits windows stream p → AreAllDrawn g draw bits windows stream q → p ≡ q
drawn-alike g draw bits windows stream p q made also =
    let same_windows = made.of_windows.1 ∙ sym also.of_windows.1 in
    let same_randomness = made.of_randomness ∙ sym also.of_randomness in
    λ i. record { randomness = same_randomness i; windows = same_windows i }
