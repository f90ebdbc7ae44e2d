use Rattle.std.proofs.Common.{◌≡◌, ◌+◌, ◌*◌, ◌/◌, ◌%◌, ◌^◌, ◌++◌, ◌∷◌, [], length, map, take, List, Ok, ap, sym, ◌∙◌, arith}
use Rattle.std.proofs.lemmas.List.{length-append, length-map, length-take-le, map-append, take-map}
use Rattle.std.specs.Prelude.{count_ones}
use Rattle.ark_paths.specs.Pair.{Digest}
use Rattle.ark_paths.specs.Rows.{digests_of}
use Rattle.merkle_log.specs.Walk.{joined}
use Rattle.merkle_log.proofs.Lasts.{node_rows}
use Rattle.merkle_log.proofs.Subtrees.{level-small, ones-up, ones-more, power-fits, length-risen, multiple-of, peaks-down, peaks-up, risen}
use Rattle.merkle_log.proofs.frontier.Frontier.append_subtree.Goals as goal

pub returns-clause-appended : goal.returns-clause-appended
returns-clause-appended g c =
    let numbers = g.D.Numbered.numbers in
    let items : c.push_reserved.new.self.items ≡ take c.in_ok-left.left c.deref.result.now ++ (c.in_ok-left.last ∷ []) =
    c.push_reserved.ensures.items ∙ ap (λ l. l ++ (c.in_ok-left.last ∷ [])) (c.truncate.ensures.items
    ∙ ap (take c.in_ok-left.left) (c.reserve.ensures.items ∙ sym c.deref.ensures.value)) in
    let lists : digests_of numbers c.push_reserved.new.self ≡ take c.in_ok-left.left (map numbers c.deref.result.now)
    ++ (numbers c.in_ok-left.last ∷ []) =
    ap (map numbers) items ∙ map-append numbers (take c.in_ok-left.left c.deref.result.now) (c.in_ok-left.last ∷ [])
    ∙ ap (λ l. l ++ (numbers c.in_ok-left.last ∷ [])) (sym (take-map numbers c.in_ok-left.left c.deref.result.now)) in
    let hash = (g.T.TreeHasher.hashes c.self.inside.hasher).pair.upper in
    let level = c.args.level in
    let size = c.self.inside.size in
    let same : size ≡ c.args.self.now.size = omega (arith, ap (λ f. f.size) c.self.view_is) in
    let q = size / 2 ^ level in
    let up : size ≡ q * 2 ^ level = multiple-of level size
    (ap (λ n. n % 2 ^ level) same ∙ c.requires.aligned) in
    let rows = risen (joined hash) level in
    let up-rows : (digests : List Digest) → length digests ≡ size → length (rows (node_rows digests)) ≡ q =
    λ digests long. length-risen (joined hash) (Ok []) level q (node_rows digests) (length-map digests Ok ∙ long
    ∙ up) in
    rw (← c.self.view_is) (λ digests more own long is. rw lists (peaks-down level q more (numbers c.self.inside.empty)
    own up long is (power-fits level size (omega (arith, same, c.requires.fits))) (c.in_ok-left.ensures.merged
    (rows (node_rows digests)) (up-rows digests own.size_is) (rw c.deref.ensures.value (peaks-up level q own up)))))

pub overflow_shr-self-inside : goal.overflow_shr-self-inside
overflow_shr-self-inside g c = level-small c.args.level c.args.self.now.size c.requires.fits

pub overflow_shl-self : goal.overflow_shl-self
overflow_shl-self g c = level-small c.args.level c.args.self.now.size c.requires.fits

pub merge-requires-clause-count : goal.merge-requires-clause-count
merge-requires-clause-count g c =
    let same : c.self.inside.size ≡ c.args.self.now.size = omega (arith, ap (λ f. f.size) c.self.view_is) in
    ap length c.deref.ensures.value ∙ c.self.invariant ∙ ones-up c.args.level c.self.inside.size
    (ap (λ n. n % 2 ^ c.args.level) same ∙ c.requires.aligned)

pub invariant_of-self-2 : goal.invariant_of-self-2
invariant_of-self-2 g c =
    let level = c.args.level in
    let size = c.self.inside.size in
    let same : size ≡ c.args.self.now.size = omega (arith, ap (λ f. f.size) c.self.view_is) in
    let items : c.push_reserved.new.self.items ≡ take c.in_ok-left.left c.deref.result.now ++ (c.in_ok-left.last ∷ []) =
    c.push_reserved.ensures.items ∙ ap (λ l. l ++ (c.in_ok-left.last ∷ [])) (c.truncate.ensures.items
    ∙ ap (take c.in_ok-left.left) (c.reserve.ensures.items ∙ sym c.deref.ensures.value)) in
    ap length items ∙ length-append (take c.in_ok-left.left c.deref.result.now) (c.in_ok-left.last ∷ [])
    ∙ ap (λ n. n + 1) (length-take-le c.in_ok-left.left c.deref.result.now c.in_ok-left.ensures.within)
    ∙ c.in_ok-left.ensures.count
    ∙ sym (ones-more level size (ap (λ n. n % 2 ^ level) same ∙ c.requires.aligned))
    ∙ ap count_ones (sym (power-fits level size (omega (arith, same, c.requires.fits))))
