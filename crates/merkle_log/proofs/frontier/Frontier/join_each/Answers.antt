use Rattle.std.proofs.Common.{◌≡◌, ℕ, ◌+◌, ◌-◌, ◌*◌, ◌%◌, ◌<◌, ◌≤◌, ◌^◌, suc, List, [], length, drop, get_or, map, Ok, arith, refl, ap, sym, ◌∙◌, inl, inr}
use Rattle.std.proofs.Math.Nat.{pow-succ'}
use Rattle.std.proofs.lemmas.List.{drop-drop, get_or-drop, length-drop, length-map}
use Rattle.std.proofs.lemmas.Nat.{zero_from_ones}
use Rattle.std.specs.Prelude.{count_ones}
use Rattle.std.proofs.lemmas.Result.{err_from_is_err_and}
use Rattle.ark_base.specs.declared.error.Error.{Error}
use Rattle.ark_base.specs.Laws.Steps.{done_injective}
use Rattle.ark_paths.specs.Pair.{Digest}
use Rattle.merkle_log.proofs.Completing.{digest-read}
use Rattle.merkle_log.proofs.Joined.{below-level, joined-none, joined-next, joined-all, more-power, ones-less}
use Rattle.merkle_log.proofs.Subtrees.{power-fits}
use Rattle.merkle_log.proofs.frontier.Frontier.join_each.Goals as goal

-- a copy of the root at a place is the first of those from there on
next-root : {X : Type 0} (numbers : X → Digest) (items : List X) (peaks : List Digest) (place : ℕ) (item copy : X)
    → map numbers items ≡ peaks → place < length items → item ≡ get_or items place item → numbers item ≡ numbers copy
    → numbers copy ≡ get_or (drop place peaks) 0 []
next-root numbers items peaks place item copy seen lt is same =
    sym same ∙ digest-read numbers items place item lt is ∙ ap (λ l. get_or l place []) seen
    ∙ ap (λ n. get_or peaks n []) (omega arith) ∙ sym (get_or-drop place peaks 0 [])

pub trees-init : goal.trees-init
trees-init g c =
    let size : c.other.inside.size ≡ c.args.other.now.size = ap (λ f. f.size) c.other.view_is in
    record {
      hasher = refl;
      empty = refl;
      size = omega (arith, size);
      ones = rw (← c.other.view_is) (length-map c.other.inside.peaks.items g.D.Numbered.numbers ∙ c.other.invariant);
      aligned = λ level le. c.requires.aligned level (omega (arith, le, size));
      joined = λ digests more front behind. rw size (joined-none front behind);
    }

pub trees-preserved : goal.trees-preserved
trees-preserved g c =
    let numbers = g.D.Numbered.numbers in
    let level = c.ilog2-level.result in
    let left = c.trees.left in
    let place = c.trees.place in
    let peaks = c.args.other.now.peaks in
    let own = c.other.inside.peaks in
    let inv = c.trees.invariant in
    let low : 2 ^ level ≤ left = c.ilog2-level.ensures.power_le in
    let high : left < 2 ^ suc level = omega (arith, c.ilog2-level.ensures.next_power_gt, pow-succ' 2 level) in
    let shift : 1 * 2 ^ level % 18446744073709551616 ≡ 2 ^ level = omega
    (arith, power-fits level 0 (omega (arith, low, c.trees.auto.left-fits))) in
    let seen : map numbers own.items ≡ peaks = ap (λ f. f.peaks) c.other.view_is in
    let lt : place < length own.items = omega (arith, c.trees-test.true, c.len-place-end.ensures, own.ok.0) in
    let root : numbers c.in_ok-root.root ≡ get_or (drop place peaks) 0 [] =
    next-root numbers own.items peaks place c.index.result.now c.in_ok-root.root seen lt c.index.ensures
    (done_injective {E = Error} _ _ c.in_ok-root.ensures) in
    let size_is = c.in_ok-append_subtree.ensures.size in
    let appended = rw inv.hasher at c.in_ok-append_subtree.ensures.appended in
    record {
      hasher = c.in_ok-append_subtree.ensures.hasher ∙ inv.hasher;
      empty = c.in_ok-append_subtree.ensures.empty ∙ inv.empty;
      size = rw shift (omega (arith, inv.size, size_is, low));
      ones = rw shift (omega (
        arith,
        length-drop place peaks,
        length-drop (place + 1) peaks,
        inv.ones,
        ones-less level
            left low high,
      ));
      aligned = λ k le.
          let less : 2 ^ k ≤ left - 2 ^ level = omega (arith, shift, le) in
          ap (λ n. n % 2 ^ k) size_is
          ∙ more-power k level c.trees.self.size (below-level k level (left - 2 ^ level) less (omega
          (arith, high, low, pow-succ' 2 level))) (inv.aligned k (omega arith));
      joined = λ digests more front behind.
          rw (shift, ← drop-drop 1 place peaks, size_is) (joined-next c.trees.self.empty level
          (inv.joined digests more front behind) low high
          (λ list tree own long is. rw (← size_is) (appended list tree own long (is ∙ ap Ok (sym root)))));
    }

pub returns-in_err-append_subtree-clause-refused :
    goal.returns-in_err-append_subtree-clause-refused
returns-in_err-append_subtree-clause-refused g c =
    let numbers = g.D.Numbered.numbers in
    let level = c.ilog2-level.result in
    let place = c.trees.place in
    let peaks = c.args.other.now.peaks in
    let own = c.other.inside.peaks in
    let inv = c.trees.invariant in
    let result = err_from_is_err_and c.from_residual-in_err-append_subtree.result
    c.from_residual-in_err-append_subtree.ensures.1 in
    let root : numbers c.in_ok-root.root ≡ get_or (drop place peaks) 0 [] =
    next-root numbers own.items peaks place c.index.result.now c.in_ok-root.root (ap (λ f. f.peaks) c.other.view_is)
    (omega (arith, c.trees-test.true, c.len-place-end.ensures, own.ok.0)) c.index.ensures
    (done_injective {E = Error} _ _ c.in_ok-root.ensures) in
    rw (result.1, result.2) (elim c.in_err-append_subtree.ensures.refused [
      | inl memory ↦ inl memory
      | inr refused ↦ inr (record {
        at = (c.trees.self.size, c.trees.self.peaks);
        waits = (c.trees.left, drop place peaks);
        level = level;
        joined = inv.joined;
        refused = rw (← root) (rw inv.hasher at refused);
      })
    ])

-- behind the last tree there is none
nothing-left : {X : Type 0} (numbers : X → Digest) (items : List X) (peaks : List Digest) (place left : ℕ)
    → map numbers items ≡ peaks → length items ≤ place → length (drop place peaks) ≡ count_ones left → left ≡ 0
nothing-left numbers items peaks place left seen past ones =
    zero_from_ones left (sym ones ∙ length-drop place peaks ∙ omega (arith, ap length seen, length-map items numbers))

pub returns-clause-joined : goal.returns-clause-joined
returns-clause-joined g c = λ digests more front behind.
    joined-all (c.trees.invariant.joined digests more front behind)
    (nothing-left g.D.Numbered.numbers c.other.inside.peaks.items c.args.other.now.peaks c.trees.place c.trees.left
    (ap (λ f. f.peaks) c.other.view_is) (omega
    (arith, c.len-place-end.ensures, c.other.inside.peaks.ok.0, c.trees-test.false)) c.trees.invariant.ones)

pub returns-clause-size : goal.returns-clause-size
returns-clause-size g c =
    omega (
      arith,
      c.trees.invariant.size,
      nothing-left g.D.Numbered.numbers c.other.inside.peaks.items c.args.other.now.peaks c.trees.place c.trees.left
          (ap (λ f. f.peaks) c.other.view_is) (omega
          (arith, c.len-place-end.ensures, c.other.inside.peaks.ok.0, c.trees-test.false)) c.trees.invariant.ones,
    )
