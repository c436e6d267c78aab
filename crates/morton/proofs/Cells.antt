-- Codes upwards: the cell n levels above a cell, and the cell at a level that holds one.
use mathlib.Core.Path.{◌≡◌, ap, ap₂, ◌∙◌}
use Prim.Native.Nat.{ℕ, suc, ◌-◌, ◌/◌, ◌^◌, ◌≤◌, ◌<◌}
use native.Mathlib.Omega.{arith}
use native.Mathlib.Nat.{mul-zero, mul-suc, mul-one, div-one}
use lib.Pow.{shr-shr}
use Rattle.morton.specs.Keys.{key, level_of, code_of, above, parent}

pub above_zero : (d c : ℕ) → above d 0 c ≡ c
above_zero d c = rw mul-zero (div-one c)

pub above-one : (d c : ℕ) → above d 1 c ≡ c / 2 ^ d
above-one d c = rw mul-one

pub above-up : (d l n c : ℕ) → l < n → above d (n - suc l) c / 2 ^ d ≡ above d (n - l) c
above-up d l n c h = let e : n - l ≡ suc (n - suc l) = omega arith in rw (e, mul-suc, shr-shr)

pub key-parts : (k : ℕ) → key (level_of k) (code_of k) ≡ k
key-parts k = omega arith

pub key-level : (l c : ℕ) → l < 32768 → level_of (key l c) ≡ l
key-level l c h = omega arith

pub key-code : (l c : ℕ) → l < 32768 → code_of (key l c) ≡ c
key-code l c h = omega arith

-- the cell at level l that holds k
abbrev pub holder : ℕ → ℕ → ℕ → ℕ
holder d l k = key l (above d (level_of k - l) (code_of k))

pub level_begins : (d l k : ℕ) → l ≤ level_of k → level_of (holder d l k) ≡ l
level_begins d l k h = omega arith

pub code_at : (d l k : ℕ) → l ≤ level_of k → code_of (holder d l k) ≡ above d (level_of k - l) (code_of k)
code_at d l k h = omega arith

pub at_self : (d k : ℕ) → holder d (level_of k) k ≡ k
at_self d k = let e : level_of k - level_of k ≡ 0 = omega arith in rw (e, above_zero d (code_of k)) (key-parts k)

pub level-parent : (d k : ℕ) → level_of (parent d k) ≡ level_of k - 1
level-parent d k = key-level (level_of k - 1) (code_of k / 2 ^ d) (omega arith)

pub code-parent : (d k : ℕ) → code_of (parent d k) ≡ code_of k / 2 ^ d
code-parent d k = key-code (level_of k - 1) (code_of k / 2 ^ d) (omega arith)

pub parent-at : (d l k : ℕ) → suc l ≤ level_of k → parent d (holder d (suc l) k) ≡ holder d l k
parent-at d l k h = ap₂ key (omega (arith, level_begins d (suc l) k h)) (ap (◌/ 2 ^ d) (code_at d (suc l) k h) ∙ above-up d l (level_of k) (code_of k) h)
