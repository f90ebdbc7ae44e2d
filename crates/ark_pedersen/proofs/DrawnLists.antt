-- Lists that are made of elements drawn one after another.
use Rattle.std.proofs.Common.{◌≡◌, ℕ, zero, suc, ◌+◌, ◌-◌, ◌<◌, ◌≤◌, List, [], ◌∷◌, ◌++◌, length, map, append_assoc, refl, sym, ap, ◌∙◌, arith}
use Rattle.std.proofs.lemmas.List.{append-nil}
use Rattle.rand_core.specs.Stream.{Stream}
use Rattle.ark_groups.specs.Draws.{drawn_values}

module _ {G : Type 0} (draw : Stream → G × Stream) where
  pub length-drawn_values : (count : ℕ) (stream : Stream) → length (drawn_values draw count stream).0 ≡ count
  unfolding drawn_values
  length-drawn_values zero stream = refl
  length-drawn_values (suc count) stream = ap suc (length-drawn_values count (draw stream).1)

module _ {G : Type 0} (make : G → List G) (draw : Stream → G × Stream) where
  -- the lists of the elements so far, followed by those of the elements that are still to be drawn, are the lists of
  -- all
  pub record AreDrawnSoFar (count : ℕ) (first : Stream) (done : ℕ) (lists : List (List G)) (left : Stream) :
      Type 0 where
    pub lists_are : lists ++ map make (drawn_values draw (count - done) left).0
        ≡ map make (drawn_values draw count first).0
    pub left_is : (drawn_values draw (count - done) left).1 ≡ (drawn_values draw count first).1

  -- at the start, after one element more, and where all are drawn
  pub no_lists_drawn : (count : ℕ) (first : Stream) (lists : List (List G)) → lists ≡ [] → AreDrawnSoFar count first 0
      lists first
  no_lists_drawn count first lists empty =
      let none : count - 0 ≡ count = omega arith in
      record {
        lists_are =
            ap (λ (t : List (List G)). t ++ map make (drawn_values draw (count - 0) first).0) empty
            ∙ ap (λ (n : ℕ). map make (drawn_values draw n first).0) none;
        left_is = ap (λ (n : ℕ). (drawn_values draw n first).1) none;
      }

  pub one_list_drawn : (count : ℕ) (first : Stream) (done : ℕ) (lists new : List (List G)) (list : List G)
      (left next : Stream) → done < count
      → new ≡ lists ++ list ∷ [] → list ≡ make (draw left).0 → next ≡ (draw left).1
      → AreDrawnSoFar count first done lists left → AreDrawnSoFar count first (done + 1) new next
  unfolding drawn_values
  one_list_drawn count first done lists new list left next more put made is_next so_far =
      let others : Stream → List (List G) = λ s. map make (drawn_values draw (count - (done + 1)) s).0 in
      let one : count - done ≡ suc (count - (done + 1)) = omega arith in
      record {
        lists_are =
            ap (λ (t : List (List G)). t ++ others next) put ∙ append_assoc lists (list ∷ []) (others next)
            ∙ ap (λ (t : List G). lists ++ t ∷ others next) made ∙ ap (λ (s : Stream). lists ++ make (draw left).0
            ∷ others s) is_next
            ∙ ap (λ (n : ℕ). lists ++ map make (drawn_values draw n left).0) (sym one) ∙ so_far.lists_are;
        left_is =
            ap (λ (s : Stream). (drawn_values draw (count - (done + 1)) s).1) is_next
            ∙ ap (λ (n : ℕ). (drawn_values draw n left).1) (sym one) ∙ so_far.left_is;
      }

  pub all_lists_drawn : (count : ℕ) (first : Stream) (done : ℕ) (lists : List (List G)) (left : Stream) → count ≤ done
      → AreDrawnSoFar count first done lists left
      → (lists ≡ map make (drawn_values draw count first).0) × (left ≡ (drawn_values draw count first).1)
  unfolding drawn_values
  all_lists_drawn count first done lists left all so_far =
      let none : count - done ≡ 0 = omega arith in (
        sym (append-nil lists) ∙ sym (ap (λ (n : ℕ). lists ++ map make (drawn_values draw n left).0) none)
            ∙ so_far.lists_are,
        sym (ap (λ (n : ℕ). (drawn_values draw n left).1) none) ∙ so_far.left_is,
      )
