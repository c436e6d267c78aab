-- Document 01, "The survey file and the listing": what the program prints for a file.
use Rattle.std.specs.Prelude.{true, List, ℕ, Float}
use Rattle.space.specs.declared.Box.{Box}
use Rattle.tree.specs.Columns.{Columns}
use Rattle.build.specs.Asked.{Asked, asks_for, built_columns}
use Rattle.build.specs.Outcomes.{build_outcome}
use Rattle.survey.specs.declared.Survey.{Survey}
use Rattle.survey.specs.File.{file_outcome, said, source_rows, target_rows}
use Rattle.report.specs.Report.{text_or, tree_text}

-- the build of a survey, with the refinement flag set
abbrev pub asked_by : Survey → List Float → List Float → Asked
asked_by s sources targets = asks_for s.b sources targets s.limit s.order s.keep true

-- room for 8,192 entries a list, and starts and counts for 2,048 nodes
abbrev pub columns_text : Box → Columns → List Float → ℕ → List ℕ
columns_text b t targets sources = tree_text b t targets 2049 8192 2049 8192 2048 sources

-- the listing of a survey with so much work, room in the order column and room in the node columns, or the first refusal
abbrev pub survey_text_in : (work order nodes : ℕ) → Survey → List Float → List Float → List ℕ
survey_text_in work order nodes s sources targets =
    text_or (build_outcome (asked_by s sources targets) work order nodes)
    (columns_text s.b (built_columns (asked_by s sources targets)) targets s.sources)

-- room for 2,048 nodes, and work and order for the largest file
abbrev pub survey_text : Survey → List Float → List Float → List ℕ
survey_text s sources targets = survey_text_in 8176 4088 2048 s sources targets

-- the listing of a file, or the first refusal on the way
abbrev pub file_text : List ℕ → List ℕ
file_text file = text_or (file_outcome file) (survey_text (said file) (source_rows file) (target_rows file))
