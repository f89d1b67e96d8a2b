-- Names with the words of memories: the one behind so many others.
use Rattle.std.specs.Prelude.{◌≡◌, refl, ℕ, ◌-◌, ◌<◌, ◌≤◌, List, [], ◌∷◌, Bool, true, false, is_some, nat_lt}
use Rattle.std.specs.Prelude.{Option, Some, None, if◌then◌else◌}
use Rattle.std.proofs.Common.{ap, ◌∙◌, arith}
use Rattle.std.proofs.lemmas.Bool.Decides.{nat_tests}
use Rattle.fv_text.specs.declared.pos.Pos.{Pos}
use Rattle.vl_tree.specs.declared.declaration.DeclaredName.{DeclaredName}
use Rattle.vl_tree.specs.Item.{Item, declaration, integer, genvar, parameter, assign, always, initial, instance}
use Rattle.vl_tree.specs.Item.{generate, for_loop, if_only, if_else}
use Rattle.vl_mean.specs.ConstantFaults.{capped}
use Rattle.vl_mean.specs.Declarations.{word_bounds}
use Rattle.vl_mean.specs.FlatLaw.{name_count as count_of}
use Rattle.vl_mean.specs.Scopes.{Scope}
use Rattle.vl_mean.specs.Walk.{Place, item}
use Rattle.vl_elab_spec.specs.Meanings.{Names}
use Rattle.vl_elab_spec.specs.NodePlaces.{name_place, words_place}
use Rattle.vl_elab_const.specs.Numbers.{HaveNumbers}
use Rattle.vl_elab_count.specs.Counts.{name_count}
use Rattle.vl_elab_count.proofs.Numbers.{one_name}
use Rattle.vl_elab_places.specs.declared.cursor.Cursor.{Cursor}
use Rattle.vl_elab_places.specs.Passing.{moved, names_passed, words_passed}
use Rattle.vl_elab_places.proofs.Moved.{still}

words_stay : (ns : List Names) (xs : List DeclaredName) (c : Cursor) → is_some c.found ≡ true
    → words_passed ns xs c ≡ c
words_stay ns [] c e = refl
words_stay ns (x ∷ xs) c e =
    ap (words_passed ns xs) (still (capped (name_count ns x.words)) x.pos c e) ∙ words_stay ns xs c e

past_limit : (n w : ℕ) → n ≤ 200000 → nat_lt n w ≡ true → nat_lt n (capped w) ≡ true
past_limit n w few e =
    let less : n < w = grind (arith, nat_tests) in
    let more : n < capped w = omega (arith, less, few) in
    grind (arith, nat_tests, more)

below_limit : (n w : ℕ) → n ≤ 200000 → nat_lt n w ≡ false → capped w ≡ w
below_limit n w few e =
    let least : w ≤ n = grind (arith, nat_tests) in omega (arith, least, few)

next_words : (ns : List Names) (xs : List DeclaredName) (p : Pos) (n w : ℕ) (after : ℕ → Option Pos) → n ≤ 200000
    → ((m : ℕ) → m ≤ 200000 → (words_passed ns xs (record { left = m; found = None })).found ≡ after m)
    → (b : Bool) → nat_lt n w ≡ b
    → (words_passed ns xs (moved (capped w) p (record { left = n; found = None }))).found
    ≡ (if b then Some p else after (n - w))
next_words ns xs p n w after few f true e =
    let past : nat_lt n (capped w) ≡ true = past_limit n w few e in
    let there : moved (capped w) p (record { left = n; found = None }) ≡ record { left = 0; found = Some p } =
    λ i. if past i then record { left = 0; found = Some p } else record { left = n - capped w; found = None } in
    ap (λ (c : Cursor). (words_passed ns xs c).found) there
    ∙ ap (λ (c : Cursor). c.found) (words_stay ns xs (record { left = 0; found = Some p }) refl)
next_words ns xs p n w after few f false e =
    let same : capped w ≡ w = below_limit n w few e in
    let near : nat_lt n (capped w) ≡ false = ap (nat_lt n) same ∙ e in
    let behind : moved (capped w) p (record { left = n; found = None }) ≡ record { left = n - w; found = None } =
    λ i. if near i then record { left = 0; found = Some p } else record { left = n - same i; found = None } in
    ap (λ (c : Cursor). (words_passed ns xs c).found) behind ∙ f (n - w) (omega (arith, few))

words_found : (ns : List Names) (ss : List Scope) → HaveNumbers ns ss → (xs : List DeclaredName) (n : ℕ) → n ≤ 200000
    → (words_passed ns xs (record { left = n; found = None })).found ≡ words_place ss n xs
words_found ns ss h [] n few = refl
words_found ns ss h (x ∷ xs) n few =
    let same : name_count ns x.words ≡ count_of (word_bounds ss x.words) = one_name ns ss h x.words in
    next_words ns xs x.pos n (name_count ns x.words) (λ m. words_place ss m xs) few
    (λ m fewer. words_found ns ss h xs m fewer) (nat_lt n (name_count ns x.words)) refl
    ∙ (λ i. if nat_lt n (same i) then Some x.pos else words_place ss (n - same i) xs)

pub names_found : (ns : List Names) (at : Place) → HaveNumbers ns at.around → (x : Item) (n : ℕ) → n ≤ 200000
    → (names_passed ns x (record { left = n; found = None })).found ≡ name_place n (item at x)
names_found ns at h (declaration attrs p d) n few = words_found ns at.around h d.names n few
names_found ns at h (integer attrs p xs) n few = words_found ns at.around h xs n few
names_found ns at h (genvar attrs p xs) n few = refl
names_found ns at h (parameter attrs p kind xs) n few = refl
names_found ns at h (assign attrs p xs) n few = refl
names_found ns at h (always attrs p event s) n few = refl
names_found ns at h (initial attrs p s) n few = refl
names_found ns at h (instance attrs p x) n few = refl
names_found ns at h (generate attrs p mark) n few = refl
names_found ns at h (for_loop attrs p head b) n few = refl
names_found ns at h (if_only attrs p e b) n few = refl
names_found ns at h (if_else attrs p e b d) n few = refl
