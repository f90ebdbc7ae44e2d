use Rattle.std.proofs.Common.{◌≡◌, ℕ, suc, ◌+◌, ◌-◌, ◌%◌, ◌<◌, ◌∷◌, map, Ok, sym, ◌∙◌, ap, ap₂, subst, arith, mod-eq_of_lt}
use Rattle.ark_base.specs.Outcome.{Outcome, ◌>>=◌}
use Rattle.ark_base.specs.Laws.Steps.{done_injective}
use Rattle.ark_groups.specs.Group.{times}
use Rattle.ark_pedersen.specs.Binding.{combination, AreAllZero}
use Rattle.ark_pedersen.specs.Pedersen.{bits_of_bytes, windows_sum}
use Rattle.ark_pedersen.proofs.Relations.{positive, answered, opening, hash_is, no_difference}
use Rattle.ark_schemes.proofs.commitment.pedersen.binding.opening_relation_of.Goals as goal

-- numbers below r are themselves modulo r
reduced : (r m n x : ℕ) → m < r → n < r → x ≡ (m + (r - n)) % r → x ≡ (m % r + (r - n % r)) % r
reduced r m n x below_m below_n e =
    e ∙ ap₂ (λ a b. (a + (r - b)) % r) (sym (mod-eq_of_lt below_m)) (sym (mod-eq_of_lt below_n))

pub returns-clause-relation : goal.returns-clause-relation
returns-clause-relation g c element elements long same =
    let r = g.C.ScalarField.Field.MODULUS in
    let v = g.C.ScalarField.Valued.value in
    let grp = g.C.AdditiveGroup.group in
    let laws = g.met.C.AdditiveGroup.laws in
    let pos = positive g.C.ScalarField.Field.modulus_laws in
    let order = g.met.C.AdditiveGroup.order in
    let left = c.args.left.now in
    let right = c.args.right.now in
    let m = v c.args.left_randomness.now.0 in
    let n = v c.args.right_randomness.now.0 in
    let found = map v c.in_ok-found.found.items in
    let below = g.met.C.ScalarField.Field.laws.below in
    let a = answered r g.W.Window left right found c.in_ok-found.ensures.exact in
    let sums : grp.plus (windows_sum grp g.W.Window.WINDOW_SIZE elements (bits_of_bytes left)) (times grp m element)
    ≡ grp.plus (windows_sum grp g.W.Window.WINDOW_SIZE elements (bits_of_bytes right)) (times grp n element) =
    done_injective _ _
    (sym (ap (λ (o : Outcome g.row.C.Denot). o >>= λ hash. Ok (grp.plus hash (times grp m element)))
    (hash_is laws r pos order g.W.Window left right found a.left_in a.right_in a.are elements left a.left_in)) ∙ same
    ∙ ap (λ (o : Outcome g.row.C.Denot). o >>= λ hash. Ok (grp.plus hash (times grp n element)))
    (hash_is laws r pos order g.W.Window left right found a.left_in a.right_in a.are elements right a.right_in)) in
    ap (λ xs. combination grp (map v xs) (element ∷ elements)) c.in_ok-insert.ensures.items
    ∙ ap (λ (x : ℕ). combination grp (x ∷ found) (element ∷ elements)) (reduced r m n (v c.sub.result)
    (below c.args.left_randomness.now.0) (below c.args.right_randomness.now.0) c.sub.ensures)
    ∙ opening laws r pos order g.W.Window left right found a.left_in a.right_in a.are elements element m n long sums

pub returns-clause-some : goal.returns-clause-some
returns-clause-some g c none long =
    let r = g.C.ScalarField.Field.MODULUS in
    let v = g.C.ScalarField.Valued.value in
    let m = v c.args.left_randomness.now.0 in
    let n = v c.args.right_randomness.now.0 in
    let found = map v c.in_ok-found.found.items in
    let below = g.met.C.ScalarField.Field.laws.below in
    let a = answered r g.W.Window c.args.left.now c.args.right.now found c.in_ok-found.ensures.exact in
    let zeros : AreAllZero (v c.sub.result ∷ found) =
    subst AreAllZero (ap (λ xs. map v xs) c.in_ok-insert.ensures.items) none in (
      c.in_ok-found.ensures.some (λ k d l. zeros (suc k) d (omega (arith, l))) long,
      no_difference r g.W.Window.WINDOW_SIZE (positive g.C.ScalarField.Field.modulus_laws) a.fits m n
          (below c.args.left_randomness.now.0) (below c.args.right_randomness.now.0)
          (sym (reduced r m n (v c.sub.result) (below c.args.left_randomness.now.0)
          (below c.args.right_randomness.now.0) c.sub.ensures) ∙ zeros 0 0 (omega arith)),
    )
