-- Cells of a list of weights, row after row. Assumes nothing.
use mathlib.Core.Path.{◌≡◌, sym, ap, ◌∙◌}
use mathlib.Core.List.{List}
use Prim.Native.Nat.{ℕ, ◌+◌, ◌*◌, ◌/◌, ◌%◌, ◌<◌}
use lib.Arith.{digits_div, digits_mod}
use lib.IntN.{ℤ, pos}
use lib.ListN.{length, set}
use lib.Seq.{get_or-set_same, get_or-set_other}
use Rattle.rules.specs.Surface.{cell}

module _ (W : ℕ) (s : List ℤ) (c r : ℕ) (v : ℤ) where
  pub cell_same : r * W + c < length s → cell W (set s (r * W + c) v) c r ≡ v
  cell_same l = get_or-set_same s (r * W + c) v (pos 0) l

  pub cell_column : (d q : ℕ) → c < W → d < W → (d ≡ c → ⊥) → cell W (set s (r * W + c) v) d q ≡ cell W s d q
  cell_column d q hc hd ne =
      get_or-set_other s (r * W + c) (q * W + d) v (pos 0)
      (λ e. ne (sym (digits_mod q hd) ∙ ap (λ n. n % W) e ∙ digits_mod r hc))

  pub cell_row : (q : ℕ) → c < W → (q ≡ r → ⊥) → cell W (set s (r * W + c) v) c q ≡ cell W s c q
  cell_row q hc ne =
      get_or-set_other s (r * W + c) (q * W + c) v (pos 0)
      (λ e. ne (sym (digits_div q hc) ∙ ap (λ n. n / W) e ∙ digits_div r hc))
