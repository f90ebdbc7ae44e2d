use Rattle.std.proofs.Common.{[], get_or, arith, sym, ◌∙◌}
use Rattle.std.proofs.lemmas.List.{length-take-le}
use Rattle.kept_map.proofs.digests.put_digest.Goals as goal

pub slice_bounds-copy_from_slice-end : goal.slice_bounds-copy_from_slice-end
slice_bounds-copy_from_slice-end c =
    let long = c.told-forks c.args.place c.requires in
    sym (length-take-le 32 (get_or c.args.forks.now c.args.place []) (omega (arith, long)))

pub copy_from_slice-requires : goal.copy_from_slice-requires
copy_from_slice-requires c =
    let long = c.told-forks c.args.place c.requires in
    length-take-le 32 (get_or c.args.forks.now c.args.place []) (omega (arith, long)) ∙ sym c.told-digest
