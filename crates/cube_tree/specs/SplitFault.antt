-- Why a leaf is not split.
use Rattle.std.specs.Prelude.{ℕ, List, [], length, Option, Some, None, codes, nat_le, slice_index_or, if◌then◌else◌}
use Rattle.cube_tree.specs.CubeTree.{CubeTree, leaves, cubes_of}
use Rattle.cube_tree.specs.declared.split_fault.SplitCause.{SplitCause}
use Rattle.cube_tree.specs.declared.split_fault.SplitCause.TheVariants.{NoSuchLeaf, TooManyLeaves, TooDeep}

-- the number of a cause
abbrev pub cause_number : SplitCause → ℕ
cause_number NoSuchLeaf = 2
cause_number TooManyLeaves = 3
cause_number TooDeep = 4

-- the name of a cause
abbrev pub cause_name : SplitCause → List ℕ
cause_name NoSuchLeaf = codes "NoSuchLeaf"
cause_name TooManyLeaves = codes "TooManyLeaves"
cause_name TooDeep = codes "TooDeep"

-- why the leaf of this number is not split: it is none of the tree's, or the new tree would pass a limit
abbrev pub split_fault : CubeTree → ℕ → Option SplitCause
split_fault tree k =
    if nat_le (leaves tree) k then Some NoSuchLeaf
    else if nat_le 1024 (leaves tree) then Some TooManyLeaves
    else if nat_le 20 (length (slice_index_or (cubes_of tree) k [])) then Some TooDeep
    else None
