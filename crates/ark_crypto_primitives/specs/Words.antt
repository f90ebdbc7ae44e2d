-- The words that the contracts of this crate use, so that a contract over it needs one import. Where two crates have a
-- word of one name, `merkle_tree_hash` is that of logs, and `tree_hash_of_entries` that of trees. Words of Jubjub that
-- are short there begin with `jubjub_`.

-- results and errors
pub use Rattle.ark_base.specs.Outcome.{Answers, AnswersBy, IsDecided, IsMemory, LacksMemoryOnly, Outcome}
pub use Rattle.ark_base.specs.declared.error.Error.TheVariants.{IncorrectInputLength, NotPrimeOrder, GenericError, OutOfMemory}
-- canonical bytes
pub use Rattle.ark_base.specs.Reading.{IsCanonical, Reading, Reads, Spells, reading_outcome}
pub use Rattle.ark_base.specs.Spelling.{byte, items_at, word}
pub use Rattle.ark_base.specs.Digits.{below_at, bytes_at, bytes_for, bytes_of_number, itself, number_of_bytes}
-- fields and groups
pub use Rattle.ark_groups.specs.Field.{IsField, IsFieldModulus, IsModulus, ReadsNumbers, dot_product, drawn_number}
pub use Rattle.ark_groups.specs.Bits.{bits_of_number}
pub use Rattle.ark_groups.specs.Words.{number}
pub use Rattle.ark_groups.specs.Group.{Group, IsCommutativeGroup, times}
pub use Rattle.ark_wide_fields.specs.Moduli.{AreFourWords, IsWide, value_of}
pub use Rattle.ark_wide_fields.specs.Laws.Moduli.{written_wide}
-- Jubjub
pub use Rattle.jubjub.specs.Edwards.{Coordinates, IsOnCurve, edwards}
pub use Rattle.jubjub.specs.Jubjub.{IsInSubgroup, IsOnJubjub, base_point, curve as jubjub_curve, order as jubjub_order}
pub use Rattle.jubjub.specs.Elements.{base as jubjub_generator, coordinates as jubjub_coordinates, jubjub}
pub use Rattle.jubjub.specs.Spelling.{spelling as jubjub_spelling}
pub use Rattle.jubjub.specs.Theorems.{ElementsAreCoordinates, HasOrder, HasPrimeOrder, IsCommutativeGroupOn, SumsOnJubjubAreComplete}
pub use Rattle.jubjub.specs.Theorems.{QuotientsAreRight}
-- Ed25519
pub use Rattle.ed25519.specs.Signatures.{IsSignature, key_of as ed25519_key, signature_of as ed25519_signature}
pub use Rattle.ed25519.specs.SigningKeys.{seed_of}
-- maps
pub use Rattle.merkle_map.specs.Map.{Entry as MapEntry, HaveSame, IsMap, MapHashes, put as map_put, root_of_map as map_root}
pub use Rattle.merkle_map.specs.Map.{value_at as map_value, without as map_without}
pub use Rattle.merkle_map.specs.Kept.{IsShownIn, MapValue}
pub use Rattle.kept_map.specs.Changed.{HasForkRoom, HasPutRoom, IsOlder, KeepsSame}
pub use Rattle.kept_map.specs.KeptMap.{KeepsMap, kept_hashes}
pub use Rattle.kept_map.specs.Between.{IsBetween, IsTreeBetween}
pub use Rattle.kept_map.specs.Differ.{HaveSameFrom, IsDifference, IsFirstApart}
pub use Rattle.kept_map.specs.Many.{IsRising, IsShownAt, IsTreeFor}
pub use Rattle.merkle_map.specs.Order.{HasNext, HasNoneBetween, HasNoneFrom, IsFirstBetween, IsKeyBelow, IsNextEntry}
pub use Rattle.merkle_map.specs.Order.{IsNextKnown, IsOutside}
pub use Rattle.merkle_map.specs.Shown.{BindsTree, Follows as MapFollows, FollowsBy as MapFollowsBy, Has as MapHas}
-- what a sponge absorbs, and sponges
pub use Rattle.ark_absorb.specs.Appending.{AppendsBytes, AppendsElements}
pub use Rattle.ark_absorb.specs.Elements.{AreShort, Elements, batch_by_item, elements_then, number_element}
pub use Rattle.ark_absorb.specs.Elements.{packed_elements, text_bytes}
pub use Rattle.ark_sponge.specs.Mode.{IsWithin, absorb_index, mode_index}
pub use Rattle.ark_sponge.specs.Permutation.{Parameters, lawful_parameters, permutation, poseidon_rounds, sums, width}
pub use Rattle.ark_sponge.specs.Sizes.{are_full, size_width, sum_of_sizes}
pub use Rattle.ark_sponge.specs.Sponge.{AbsorbsAsOne, GivesAsOne, LeavesAsOne, Sponge, SpongeState, after_absorbing}
pub use Rattle.ark_sponge.specs.Sponge.{after_squeezing, new_sponge, poseidon_digest, restored_sponge, squeezed_numbers}
pub use Rattle.ark_sponge.specs.Sponge.{with_absorbed}
pub use Rattle.ark_sponge.specs.Squeezing.{cut_squeezed, native_squeezed}
pub use Rattle.ark_poseidon_parameters.specs.Ready.{AreReady, bls12_381_fr_alpha, bls12_381_fr_rounds, bn254_fr_rounds}
pub use Rattle.poseidon_grain.specs.Grain.{below_drawn, list_drawn, remainder_drawn, seeded}
pub use Rattle.poseidon_grain.specs.Constants.{AreGenerated, AreParameters, Instance, IsCauchy, IsMatrixRefused, instance_of}
pub use Rattle.poseidon_grain.specs.Constants.{constants_drawn, counts_fit, xs_drawn, ys_drawn}
pub use Rattle.poseidon_grain.specs.Defaults.{Counts, bls12_381_fr_counts, circom_rounds}
pub use Rattle.poseidon_grain.specs.Permuting.{IsPermuting, IsStateOf, TellsNumbers, TellsStates}
pub use Rattle.poseidon2.specs.Compression.{poseidon2_hash, setup_refused}
pub use Rattle.poseidon2.specs.Deployed.{baby_bear_outcome, goldilocks_outcome, koala_bear_outcome, risc_zero_outcome}
pub use Rattle.poseidon2.specs.Matrices.{block_circulant, external_matrix, internal_matrix}
pub use Rattle.poseidon2.specs.Modes.{compressed_digests, padding_free_hash, state_overwriting}
pub use Rattle.poseidon2.specs.Permutation.{are_wide, is_width, lawful_poseidon2, poseidon2_permutation}
-- hashes
pub use Rattle.ark_crh.specs.Ahead.{HashesAhead, lent, lent_couples, of_bytes, of_couple, sure}
pub use Rattle.ark_poseidon.specs.ConstantLength.{constant_length_outcome}
pub use Rattle.ark_poseidon.specs.Digest.{digest_of_two}
pub use Rattle.ark_pedersen.specs.Pedersen.{AreDrawn, AreGeneratorsOf, bits_of_bytes, doublings, generators_in}
pub use Rattle.ark_pedersen.specs.Pedersen.{lists_in, of_halves, pedersen_hash, seen_by, window_elements, windows_hash}
pub use Rattle.ark_bowe_hopwood.specs.BoweHopwood.{AreDrawnSegments, AreSegmentsOf, TellsChunksApart, bowe_hopwood_hash}
pub use Rattle.ark_bowe_hopwood.specs.BoweHopwood.{segments_hash, segments_outcome}
pub use Rattle.ark_bowe_hopwood.specs.Nodes.{leveled_hash}
pub use Rattle.ark_schemes.specs.Blake2s.{blake2s, blake2s_with}
pub use Rattle.ark_schemes.specs.Hashers.{AloneHoldsText, HoldsText}
pub use Rattle.ark_trees.specs.Rfc6962.{entry_hash, log_hashes, tree_hash_of_entries, node_hash}
pub use Rattle.ark_trees.specs.Rfc6962.{node_of}
-- commitments, encryption and signatures
pub use Rattle.ark_schemes.specs.Commitments.{blake2s_commitment}
pub use Rattle.ark_schemes.specs.PedersenCommitments.{AreMade, AreOf, IsUnion, elements_in, pedersen_commitment, sum_of}
pub use Rattle.ark_schemes.specs.PedersenCommitments.{IsDoublingFault, elements_by_table, windows_commitment}
pub use Rattle.ark_signatures.specs.ElGamal.{decrypted, encrypted}
pub use Rattle.ark_signatures.specs.Schnorr.{IsValid, challenge_of, first_nonce, highest_first, multiplier, numbers_of}
pub use Rattle.ark_signatures.specs.Schnorr.{randomised, randomised_key, response, signed, verified}
pub use Rattle.ark_signatures.specs.SecretShares.{AreSharesOf, GiveSecret, IsWhyNoSecret, numbers_of_shares}
pub use Rattle.ark_signatures.specs.SecretShares.{polynomial_value, responses, share_places, value_at_zero}
-- trees, paths and multi-proofs
pub use Rattle.ark_merkle.specs.Batch.{with_each_leaf, with_leaves}
pub use Rattle.ark_merkle.specs.Binding.{MatchesVerdict, binding_in}
pub use Rattle.ark_merkle.specs.MultiProof.{IsMultiAccepted, multi_path_in, paths_in}
pub use Rattle.ark_merkle.specs.Update.{ChangesWay, change_agrees, with_leaf}
pub use Rattle.ark_paths.specs.Above.{count_above}
pub use Rattle.ark_paths.specs.Asked.{CountsOwn, most_asked}
pub use Rattle.ark_paths.specs.Bind.{BindsGiven, BindsLeaf, CollidesAt, StandsOrCollides}
pub use Rattle.ark_paths.specs.Index.{IsTreeSize, bit_at, is_tree_size, log2, neighbour}
pub use Rattle.ark_paths.specs.Leaves.{AnswersOver}
pub use Rattle.ark_paths.specs.MultiPath.{MultiWay, decoded_paths, multi_verdict}
pub use Rattle.ark_paths.specs.MultiPathBytes.{MultiParts, multi_way_of, parts_of}
pub use Rattle.ark_paths.specs.MultiPathStrict.{AreInOrder, is_strict, strict_reading}
pub use Rattle.ark_paths.specs.Pair.{Digest, HashPair, Hashes, pair_of}
pub use Rattle.ark_paths.specs.Path.{Way, verdict}
pub use Rattle.ark_paths.specs.PathBytes.{PathParts, way_of}
pub use Rattle.ark_paths.specs.Received.{ShowsLeaf, ShowsLeaves, provided, received_multi_path, received_multi_verdict}
pub use Rattle.ark_paths.specs.Received.{received_path, received_verdict}
pub use Rattle.ark_paths.specs.Root.{all_hashes, root_of}
pub use Rattle.ark_paths.specs.Rows.{IsTree, digests_of, rows_seen}
pub use Rattle.ark_paths.specs.Tree.{HashedTree, HoldsLeaf, IsAccepted, Tree, halves_beside, path_in, root_in}
pub use Rattle.ark_paths.specs.Tree.{tree_above, tree_of, tree_with}
-- conflicts in trees
pub use Rattle.ark_crypto_primitives.specs.Conflicts.{AreInConflict, IsShownUnder, ShownLeaf, TreeHashes, conflict_verdict}
pub use Rattle.ark_crypto_primitives.specs.Conflicts.{shown_leaf, shown_pair}
pub use Rattle.ark_crypto_primitives.specs.NodeConflicts.{NodeConflictsGiveRelations}
pub use Rattle.ark_crypto_primitives.specs.TreeRelations.{BoweHopwoodConflictsGiveRelations, GivePedersenRelations}
pub use Rattle.ark_crypto_primitives.specs.TreeRelations.{PedersenConflictsGiveRelations, bowe_hopwood_tree, digest_view}
pub use Rattle.ark_crypto_primitives.specs.TreeRelations.{HaveWidth, PointConflictsGiveRelations, pedersen_tree, point_tree}
-- logs
pub use Rattle.merkle_log.specs.Append.{HasLeaf, HasLeaves, IsWholeList, KeepsSizes, RefusesLeaves, RefusesRow, pair_count}
pub use Rattle.merkle_log.specs.Bind.{BindsDigest, BindsFront, BindsLogLeaf, BindsOldRoot, IsConsistency, IsInclusion}
pub use Rattle.merkle_log.specs.Bind.{IsLeafInclusion, StandsOrPathCollides}
pub use Rattle.merkle_log.specs.Binding.{HighestIn, IsHighest, LeafHighestIn, is_accepted, leaf_verdict_in, verdict_in}
pub use Rattle.merkle_log.specs.Collision.{HistoriesCollide, PathCollidesAt, WalkCollides}
pub use Rattle.merkle_log.specs.Edge.{all_of, root_pairs}
pub use Rattle.merkle_log.specs.Frontier.{CanJoin, FrontierValue, IsFrontier, RefusesPeak, RefusesTree, frontier_in}
pub use Rattle.merkle_log.specs.Insertion.{BindsInsertion, IsInsertion, ShowsInsertion, insertion_root, received_insertion}
pub use Rattle.merkle_log.specs.Log.{LogValue, both_levels, consistency_path, inclusion_path, merkle_tree_hash, root_at}
pub use Rattle.merkle_log.specs.Log.{with_more}
pub use Rattle.merkle_log.specs.Multi.{Known, are_multi_indexes, digests_at, known_of, known_verdict, leaves_verdict}
pub use Rattle.merkle_log.specs.Multi.{multi_length, multi_pairs, multi_proof, received_leaves}
pub use Rattle.merkle_log.specs.MultiBind.{BindsDigests, BindsLogLeaves, IsLeavesProof, IsMultiProof, ShowsLogLeaves}
pub use Rattle.merkle_log.specs.Received.{ShowsFront, ShowsLogLeaf, consistency_length, digests_in, inclusion_length}
pub use Rattle.merkle_log.specs.Received.{received_consistency, received_inclusion}
pub use Rattle.merkle_log.specs.Stored.{IsStored, row_at}
pub use Rattle.merkle_log.specs.Verdict.{consistency_verdict, inclusion_verdict, leaf_verdict}
-- incremental trees
pub use Rattle.incremental_trees.specs.Incremental.{HoldsLeaves, IncrementalValue, RefusesComplete, RefusesEmptyTree}
pub use Rattle.incremental_trees.specs.Incremental.{RefusesLeaf}
pub use Rattle.incremental_trees.specs.KeptPaths.{AreCompleted, CompletedValue, IsKeptPath, KeptPathValue, rising_verdict}
pub use Rattle.incremental_trees.specs.Nodes.{LevelHash, depth_root, level_hash, nodes_beside, padded_leaves, rising_root}
