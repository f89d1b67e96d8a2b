-- The words of the channels, one by one.
use Rattle.std.specs.Prelude.{◌≡◌, refl, ℕ, zero, suc, ◌+◌, ◌<◌, List, [], ◌∷◌, ◌++◌, length, map, reverse, drop}
use Rattle.std.specs.Prelude.{slice_index_or}
use Rattle.std.specs.List.{AllByRecursion}
use Rattle.std.proofs.Common.{ap, sym, ◌∙◌, arith, subst}
use Rattle.std.proofs.lemmas.List.{reverse-append, map-append}
use Rattle.wn_net.specs.Value.{Given}
use Rattle.wn_net.specs.Net.{Netlist, AreNodesOf, value_at}
use Rattle.wn_net.specs.Changes.{AddsNodes}
use Rattle.wn_net.proofs.Laws.{adds_regs, value_on}
use Rattle.rvfi_port.specs.declared.port.Channel.{Channel}
use Rattle.rvfi_port.specs.Channels.{retire_at}
use Rattle.ck_cfg.specs.declared.kind.CheckKind.{CheckKind}
use Rattle.ck_history.specs.Entries.{packed}
use Rattle.rvfi_port.specs.Ports.{AreChannelNodes}
use Rattle.ck_gen.specs.Kept.{kept, kept_in}
use Rattle.rvfi_port.proofs.AddedRegs.{retire_on}
use Rattle.ck_gen.proofs.Shown.{kept_of}

pub channel_here : (net : Netlist) (cs : List Channel) (i : ℕ) (x d : Channel)
    → AllByRecursion (AreChannelNodes net) cs → i < length cs → x ≡ slice_index_or cs i d → AreChannelNodes net x
channel_here net [] i x d own below e = absurd (omega (arith, below))
channel_here net (c ∷ cs) zero x d own below e =
    let P : Channel → Type 0 = λ y. AreChannelNodes net y in
    subst P (sym e) own.0
channel_here net (c ∷ cs) (suc i) x d own below e = channel_here net cs i x d own.1 (omega (arith, below)) e

pub dropped : (cs : List Channel) (i : ℕ) (x d : Channel) → i < length cs → x ≡ slice_index_or cs i d
    → drop i cs ≡ x ∷ drop (i + 1) cs
dropped [] i x d below e = absurd (omega (arith, below))
dropped (c ∷ cs) zero x d below e = ap (λ y. y ∷ cs) (sym e)
dropped (c ∷ cs) (suc i) x d below e =
    let same : suc (i + 1) ≡ suc i + 1 = omega arith in
    dropped cs i x d (omega (arith, below)) e ∙ ap (λ k. x ∷ drop k (c ∷ cs)) same

none_left : (k : ℕ) (cs : List Channel) → length cs ≡ k → drop k cs ≡ []
none_left zero [] e = refl
none_left zero (c ∷ cs) e = absurd (omega (arith, e))
none_left (suc k) [] e = refl
none_left (suc k) (c ∷ cs) e = none_left k cs (omega (arith, e))

-- no word for no channel
pub no_words : (old net : Netlist) (g : Given) (kind : CheckKind) (cs : List Channel) (made : List ℕ) → made ≡ []
    → map (value_at net g) made ≡ map packed (kept_in kind old g (drop (length cs) cs))
no_words old net g kind cs made e =
    ap (map (value_at net g)) e
    ∙ sym (ap (λ xs. map packed (kept_in kind old g xs)) (none_left (length cs) cs refl))

numbers_on : (old new : Netlist) (w : ℕ) (g : Given) (ids : List ℕ) → AddsNodes old new → AreNodesOf old w ids
    → map (value_at new g) ids ≡ map (value_at old g) ids
numbers_on old new w g [] adds own = refl
numbers_on old new w g (id ∷ ids) adds own =
    λ i. value_on old new g id adds own.0.0 i ∷ numbers_on old new w g ids adds own.1 i

-- a word more
pub words_push : (old now new : Netlist) (g : Given) (kind : CheckKind) (cs : List Channel) (i : ℕ) (x : Channel)
    (made : List ℕ) (id : ℕ) → AddsNodes old now → AreChannelNodes old x → AddsNodes now new → AreNodesOf now 102 made
    → drop i cs ≡ x ∷ drop (i + 1) cs
    → map (value_at now g) made ≡ map packed (kept_in kind old g (drop (i + 1) cs))
    → value_at new g id ≡ packed (kept kind (value_at now g x.valid) (retire_at now g x))
    → map (value_at new g) (made ++ id ∷ []) ≡ map packed (kept_in kind old g (drop i cs))
words_push old now new g kind cs i x made id before own adds nodes here so_far value =
    let rest = map (kept_of kind old g) (drop (i + 1) cs) in
    let last : value_at new g id ≡ packed (kept_of kind old g x) =
    value
    ∙ (λ j. packed (kept kind (value_on old now g x.valid before own.valid.0 j)
    (retire_on old now g x (adds_regs old now before) own j))) in
    map-append (value_at new g) made (id ∷ [])
    ∙ (λ j. (numbers_on now new 102 g made adds nodes ∙ so_far) j ++ last j ∷ [])
    ∙ sym (ap (λ xs. map packed (kept_in kind old g xs)) here
    ∙ ap (map packed) (reverse-append (kept_of kind old g x ∷ []) rest)
    ∙ map-append packed (reverse rest) (kept_of kind old g x ∷ []))
