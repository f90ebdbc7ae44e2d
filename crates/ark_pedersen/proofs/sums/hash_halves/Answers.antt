use Rattle.std.proofs.Common.{◌≡◌, ℕ, ◌*◌, ◌/◌, ◌≤◌, true, Ok, List, length, sym, ap, ◌∙◌}
use Rattle.ark_base.specs.Outcome.{Outcome}
use Rattle.ark_groups.specs.Group.{Group, IsCommutativeGroup}
use Rattle.ark_pedersen.specs.Pedersen.{bits_of_bytes, window_bits, lists_in, has_shape, sum_from, pedersen_hash, of_halves}
use Rattle.ark_pedersen.specs.declared.window.Window.{Ghosts as Windows}
use Rattle.ark_pedersen.proofs.Halves.{of_halves-sum}
use Rattle.ark_pedersen.proofs.sums.hash_halves.Goals as goal

module _ {G W : Type 0} {g : Group G} (laws : IsCommutativeGroup g) (windows : Windows W)
    (lists : List (List G)) where
  -- left was added to zero, and right to that
  in_turn : (left right : List ℕ) (zero sum whole : G)
      → length left ≡ length right → length left ≤ window_bits windows / 2 / 8 → has_shape windows.NUM_WINDOWS
      windows.WINDOW_SIZE lists ≡ true
      → zero ≡ g.identity
      → sum ≡ g.plus zero (sum_from g 0 lists (bits_of_bytes left))
      → whole ≡ g.plus sum (sum_from g (8 * length left) lists (bits_of_bytes right))
      → Ok whole ≡ of_halves windows (pedersen_hash g windows lists) left right
  in_turn left right zero sum whole same short shape start first second =
      let more = sum_from g (8 * length left) lists (bits_of_bytes right) in
      let here : G = sum_from g 0 lists (bits_of_bytes left) in
      ap (λ (x : G). let o : Outcome G = Ok x in o) (second ∙ ap (λ (x : G). g.plus x more)
      (first ∙ ap (λ (x : G). g.plus x here) start ∙ laws.left_identity here))
      ∙ sym (of_halves-sum laws windows lists left right same short shape)

pub returns : goal.returns
returns g c =
    let short = rw (c.WINDOW_SIZE.ensures, c.NUM_WINDOWS.ensures) at c.if-left-WINDOW_SIZE.false in
    let total = g.C.AdditiveGroup.total in
    in_turn g.met.C.AdditiveGroup.laws g.W.Window (lists_in c.args.generators.now) c.args.left.now c.args.right.now
    (total c.to_sum.result) (total c.add_bytes-sum.result) c.from_sum.result c.if-left-right.false short
    (sym c.if-not-has_shape.ensures) (c.to_sum.ensures ∙ c.zero.ensures) c.add_bytes-sum.ensures
    (c.from_sum.ensures ∙ c.add_bytes-whole.ensures)
