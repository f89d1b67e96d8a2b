-- The design of `bench`, put together of its parts.
use Rattle.std.proofs.Common.{◌≡◌, ℕ, List, ◌++◌, ap, ◌∙◌, append_assoc, decimal}
use Rattle.rvf_core.specs.Bench.{design_and, design_head, design_registers, design_rest, design_text}

put_behind : (before after part rest : List ℕ) → after ≡ before ++ part → after ++ rest ≡ before ++ (part ++ rest)
put_behind before after part rest is = ap (λ l. l ++ rest) is ∙ append_assoc before part rest

pub design_is : (size : ℕ) (digits a b c d e f g : List ℕ) → digits ≡ decimal size → a ≡ design_head
    → b ≡ a ++ digits → c ≡ b ++ design_registers → d ≡ c ++ digits → e ≡ d ++ design_and → f ≡ e ++ digits
    → g ≡ f ++ design_rest → g ≡ design_text size
design_is size digits a b c d e f g digits_are a_is b_is c_is d_is e_is f_is g_is =
    g_is ∙ put_behind e f digits _ f_is ∙ put_behind d e design_and _ e_is ∙ put_behind c d digits _ d_is
    ∙ put_behind b c design_registers _ c_is ∙ put_behind a b digits _ b_is
    ∙ ap (λ l. l ++ (digits ++ (design_registers ++ (digits ++ (design_and ++ (digits ++ design_rest)))))) a_is
    ∙ ap (λ n. design_head ++ (n ++ (design_registers ++ (n ++ (design_and ++ (n ++ design_rest)))))) digits_are
