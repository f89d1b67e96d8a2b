-- Between functions: Effects one after the other, one of two, and behind what is read. Rule of this project.
use Rattle.std.specs.Prelude.{◌≡◌, ℕ, List, ◌&&◌, ◌||◌, not}
use Rattle.fv_bit_sets.specs.declared.step.Step.{Step}
use Rattle.fv_bit_sets.specs.Cells.{has, IsBare}
use Rattle.vl_flow_effects.specs.declared.effect.Effect.{Effect}

-- no bit is in its sets
pub record IsNone (e : Effect) : Type 0 where
  pub needs : (c : ℕ) → IsBare e.needs c
  pub sure : (c : ℕ) → IsBare e.sure c
  pub surely : (c : ℕ) → IsBare e.surely c
  pub blocking : (c : ℕ) → IsBare e.blocking c
  pub nonblocking : (c : ℕ) → IsBare e.nonblocking c

-- the first one, and then the second
pub record IsThen (a b made : Effect) : Type 0 where
  pub needs : (c i : ℕ) → has made.needs c i ≡ (has a.needs c i || (has b.needs c i && not (has a.sure c i)))
  pub sure : (c i : ℕ) → has made.sure c i ≡ (has a.sure c i || has b.sure c i)
  pub surely : (c i : ℕ) → has made.surely c i ≡ (has a.surely c i || has b.surely c i)
  pub blocking : (c i : ℕ) → has made.blocking c i ≡ (has a.blocking c i || has b.blocking c i)
  pub nonblocking : (c i : ℕ) → has made.nonblocking c i ≡ (has a.nonblocking c i || has b.nonblocking c i)

-- on each path one of them
pub record IsEither (a b made : Effect) : Type 0 where
  pub needs : (c i : ℕ) → has made.needs c i ≡ (has a.needs c i || has b.needs c i)
  pub sure : (c i : ℕ) → has made.sure c i ≡ (has a.sure c i && has b.sure c i)
  pub surely : (c i : ℕ) → has made.surely c i ≡ (has a.surely c i && has b.surely c i)
  pub blocking : (c i : ℕ) → has made.blocking c i ≡ (has a.blocking c i || has b.blocking c i)
  pub nonblocking : (c i : ℕ) → has made.nonblocking c i ≡ (has a.nonblocking c i || has b.nonblocking c i)

-- the bits are read before it
pub record IsBehind (a : Effect) (reads : List Step) (made : Effect) : Type 0 where
  pub needs : (c i : ℕ) → has made.needs c i ≡ (has reads c i || has a.needs c i)
  pub sure : made.sure ≡ a.sure
  pub surely : made.surely ≡ a.surely
  pub blocking : made.blocking ≡ a.blocking
  pub nonblocking : made.nonblocking ≡ a.nonblocking
