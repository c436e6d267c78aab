-- Document 01, "Lists, lookup, sourced cells": lookup answers the key of the leaf that holds a point, and the steps to it.
use Rattle.std.specs.Prelude.{◌≡◌, cond, List, ℕ, ◌+◌, ◌*◌, ◌-◌, ◌≤◌, ◌<◌, length, get_or, None, Option, Some}
use Rattle.morton.specs.Keys.{level_of}
use Rattle.tree.specs.Order.{depth_of}
use Rattle.tree.specs.Leaves.{held, leaf_key, steps_to}
use Rattle.lookup.specs.declared.Holder.{Holder}
use Rattle.lookup.specs.Single.{leaf_for}

-- the leaf that holds a code, where one does
abbrev pub holder_of : ℕ → List ℕ → ℕ → Option Holder
holder_of d keys code = cond (held d keys code) (Some (leaf_for d keys code)) None

-- what was found is a node whose level is at most `depth`, or nothing
pub record FoundWithin (keys : List ℕ) (depth : ℕ) (leaf : Option ℕ) : Type 0 where
  pub number : (node : ℕ) → leaf ≡ Some node → node < length keys
  pub within : (node : ℕ) → leaf ≡ Some node → level_of (get_or keys node 0) ≤ depth

-- the leaf that holds the code, by what was found
abbrev pub holder_at : List ℕ → ℕ → Option ℕ → Option Holder
holder_at keys depth (Some node) = Some (record { key = get_or keys node 0; steps = depth - level_of (get_or keys node 0) })
holder_at keys depth None = None

-- ---- what is promised of the steps: from the leaf with key k they make up the depth, and they are at most 15
pub record Steps (keys : List ℕ) (k steps : ℕ) : Type 0 where
  pub levels : steps + level_of k ≡ depth_of keys
  pub few : steps ≤ 15

-- of a batch of n codes: so do each one's, and their sum is at most 15 for each
pub record BatchSteps (d : ℕ) (keys codes : List ℕ) (n total : ℕ) : Type 0 where
  pub each : (i : ℕ) → i < n → Steps keys (leaf_key d keys (get_or codes i 0)) (steps_to d keys (get_or codes i 0))
  pub few : total ≤ 15 * n
