-- How the list of checks of Zba and Zbs is put together, and that these are lawful.
use Rattle.std.proofs.Common.{◌≡◌, ℕ, suc, ◌+◌, ◌-◌, ◌<◌, ◌≤◌, List, [], ◌∷◌, ◌++◌, Option, Some, None, ap, sym, ◌∙◌}
use Rattle.std.proofs.Common.{append_assoc, arith, refl, zero, Bool, true, false, cond, subst}
use Rattle.std.specs.Prelude.{find, option_map, option_to_list}
use Rattle.std.specs.List.{AllByRecursion, flat_map, range_with_len}
use Rattle.ck_cfg.specs.declared.check.Check.{Check}
use Rattle.ck_cfg.specs.Lawful.{IsCheck}
use Rattle.ck_cfg.proofs.Lawfulness.{all_append}
use Rattle.rv_zb.specs.declared.row.ZbRow.{ZbRow}
use Rattle.rv_zb.specs.Rows.{zb_rows}
use Rattle.ck_ask.specs.declared.zb_check.ZbCheck.{ZbCheck}
use Rattle.ck_ask.specs.Asked.{IsZbCheck}
use Rattle.ck_ask.specs.ZbChecks.{zb_check_at, is_insn_at, zb_channel_check, zb_row_checks, zb_checks_of}

range_more : (a n k : ℕ) → n ≡ suc k → range_with_len a n ≡ a ∷ range_with_len (a + 1) k
range_more a n k e = ap (range_with_len a) e

-- one channel more
pub channel_more : (f : ℕ → List ZbCheck) (before new all : List ZbCheck) (a n : ℕ) → a < n
    → before ++ flat_map f (range_with_len a (n - a)) ≡ all → new ≡ before ++ f a
    → new ++ flat_map f (range_with_len (a + 1) (n - (a + 1))) ≡ all
channel_more f before new all a n lt e g =
    ap (λ x. x ++ flat_map f (range_with_len (a + 1) (n - (a + 1)))) g
    ∙ append_assoc before (f a) (flat_map f (range_with_len (a + 1) (n - (a + 1))))
    ∙ ap (λ x. before ++ flat_map f x) (sym (range_more a (n - a) (n - (a + 1)) (omega arith))) ∙ e

-- ---- lawful

-- what is found among lawful checks is one
found_lawful : (n : ℕ) (p : Check → Bool) (xs : List Check) (x : Check) → AllByRecursion (IsCheck n) xs
    → find p xs ≡ Some x → IsCheck n x
found_lawful n p [] x all e = absurd (let f : ⊥ = cc in f)
found_lawful n p (y ∷ ys) x all e = step (p y) (found_lawful n p ys x all.1) e where
  step : (b : Bool) → (find p ys ≡ Some x → IsCheck n x) → cond b (Some y) (find p ys) ≡ Some x → IsCheck n x
  step true f g = let one : y ≡ x = cc in subst (IsCheck n) one all.0
  step false f g = f g

at_channel : (n channel : ℕ) (row : ZbRow) (o : Option Check) → channel < n
    → ((x : Check) → o ≡ Some x → IsCheck n x)
    → AllByRecursion (IsZbCheck n) (option_to_list (option_map (zb_check_at row channel) (option_map (λ c. c.cycle) o)))
at_channel n channel row None below h = tt
at_channel n channel row (Some x) below h = (record { channel = below; most = (h x refl).lawful.most }, tt)

in_channels : (n : ℕ) (row : ZbRow) (checks : List Check) (a k : ℕ) → a + k ≤ n → AllByRecursion (IsCheck n) checks
    → AllByRecursion (IsZbCheck n) (flat_map (zb_channel_check checks row) (range_with_len a k))
in_channels n row checks a zero within all = tt
in_channels n row checks a (suc k) within all =
    all_append (IsZbCheck n) (zb_channel_check checks row a)
    (flat_map (zb_channel_check checks row) (range_with_len (a + 1) k))
    (at_channel n a row (find (is_insn_at a) checks) (omega (arith, within))
    (λ x e. found_lawful n (is_insn_at a) checks x all e))
    (in_channels n row checks (a + 1) k (omega (arith, within)) all)

in_rows : (n : ℕ) (checks : List Check) (rows : List ZbRow) → AllByRecursion (IsCheck n) checks
    → AllByRecursion (IsZbCheck n) (flat_map (zb_row_checks checks n) rows)
in_rows n checks [] all = tt
in_rows n checks (r ∷ rs) all =
    all_append (IsZbCheck n) (zb_row_checks checks n r) (flat_map (zb_row_checks checks n) rs)
    (in_channels n r checks 0 n (omega arith) all) (in_rows n checks rs all)

pub zb_lawful : (n : ℕ) (checks : List Check) → AllByRecursion (IsCheck n) checks
    → AllByRecursion (IsZbCheck n) (zb_checks_of checks n)
zb_lawful n checks all = in_rows n checks zb_rows all
