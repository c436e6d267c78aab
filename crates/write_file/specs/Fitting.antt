-- When columns of so many entries can be written; for the house.
use Rattle.std.specs.Prelude.{Bool, ◌&&◌, ℕ, leb}
use Rattle.tree_file.specs.Checks.{most_nodes, most_keys}
use Rattle.file_layout.specs.Lengths.{body_length}

unfoldable pub lengths_fit : (keys own begin total order us uk vs vk : ℕ) → Bool
lengths_fit keys own begin total order us uk vs vk =
    (leb keys most_nodes && (leb uk most_keys && leb vk most_keys)) && leb (body_length keys own begin total order us uk vs vk) 4294967295
