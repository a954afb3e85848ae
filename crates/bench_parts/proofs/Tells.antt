-- What a call was told, as what its bench heard.
use Rattle.std.proofs.Common.{◌≡◌, ℕ, ◌+◌, true, List, [], ◌∷◌, ◌++◌, Option, Some, None, refl, sym, ap, ◌∙◌, subst, map, filter_map}
use Rattle.std.proofs.lemmas.List.{map-append}
use Rattle.std.specs.Prelude.{IsTrue, not}
use Rattle.std.specs.List.{list_all}
use Rattle.faaslet_meaning.specs.declared.grant.Channel.{Channel}
use Rattle.faaslet_meaning.specs.declared.grant.Channel.TheVariants.{Table}
use Rattle.faaslet_meaning.specs.declared.grant.Grant.{Grant}
use Rattle.faaslet_meaning.specs.declared.outcome.Broken.{Broken}
use Rattle.faaslet_meaning.specs.declared.outcome.Outcome.{Outcome}
use Rattle.faaslet_meaning.specs.declared.outcome.Outcome.TheVariants as outcome
use Rattle.faaslet_meaning.specs.CallState.{State, runs, over, fresh_state}
use Rattle.faaslet_meaning.specs.Configuration.{Configuration}
use Rattle.faaslet_meaning.specs.Fresh.{Function, fresh, makes, breaks}
use Rattle.faaslet_meaning.specs.Goes.{Goes}
use Rattle.faaslet_meaning.specs.Runs.{Runs, runs_by, invocation}
use Rattle.faaslet_meaning.specs.Channels.{RegionOperation, Operation, on_region, submit, look, is_on_region, Reply, Transcript, told_by, counts}
use Rattle.faaslet_meaning.proofs.Ways.{told_join, goes_run}
use Rattle.call_service.specs.Asked.{told_as}
use Rattle.session_meaning.proofs.CallsAlike.{counts_alike}
use Rattle.session_meaning.specs.Answered.{of_region, of_table, told_of}
use Rattle.bench_parts.specs.AnsweredBy.{answered, parent_on, answered_by}

same_told : (parent : Option ℕ) (xs : List (Operation × Reply)) → told_of (map (answered parent) xs) ≡ xs
same_told parent [] = refl
same_told parent (x ∷ xs) = ap (λ ys. x ∷ ys) (same_told parent xs)

pub answered_told : (call : ℕ) (transcript : Transcript) (ch : Channel) → told_of (answered_by call transcript ch) ≡ told_by transcript ch
answered_told call transcript ch = same_told (parent_on call ch) (told_by transcript ch)

pub answered_keys : (heard : List (RegionOperation × Reply)) → map (answered None) (map {A = RegionOperation × Reply} {B = Operation × Reply} (λ x. (on_region x.0, x.1)) heard) ≡ map of_region heard
answered_keys [] = refl
answered_keys (x ∷ xs) = ap (λ ys. of_region x ∷ ys) (answered_keys xs)

table_told : (call : ℕ) (xs : List (Operation × Reply)) → list_all {X = Operation × Reply} (λ x. not (is_on_region x.0)) xs ≡ true → map (answered (Some call)) xs ≡ filter_map of_table (told_as call xs)
table_told call [] all = refl
table_told call ((submit f bs, r) ∷ xs) all = ap (λ ys. answered (Some call) (submit f bs, r) ∷ ys) (table_told call xs all)
table_told call ((look c, r) ∷ xs) all = ap (λ ys. answered (Some call) (look c, r) ∷ ys) (table_told call xs all)
table_told call ((on_region o, r) ∷ xs) all = let no : ⊥ = cc in absurd no

pub answered_table : (call : ℕ) (transcript : Transcript) → IsTrue (list_all {X = Operation × Reply} (λ x. not (is_on_region x.0)) (told_by transcript Table)) → answered_by call transcript Table ≡ filter_map of_table (told_as call (told_by transcript Table))
answered_table call transcript all = table_told call (told_by transcript Table) all

pub answered_joins : (call : ℕ) (before after : Transcript) (ch : Channel) → answered_by call (before ++ after) ch ≡ answered_by call before ch ++ answered_by call after ch
answered_joins call before after ch = ap (map (answered (parent_on call ch))) (told_join before after ch) ∙ map-append (answered (parent_on call ch)) (told_by before ch) (told_by after ch)

-- ---- A call that ran.

pub answered_ran : (f : Function) (input : List ℕ) (c : Configuration) (transcript : Transcript) (s : State) (o : Outcome) (used call : ℕ) → fresh f ≡ makes c → Goes (invocation f input) (runs (fresh_state c)) transcript (over s o) → used + s.config.fuel ≡ f.fuel → Runs f input (λ ch. told_of (answered_by call transcript ch)) o s.output used
answered_ran f input c transcript s o used call made g fuel =
    subst (λ m. runs_by f m input (λ ch. told_of (answered_by call transcript ch)) o s.output used) (sym made)
    (record { transcript = transcript; last = s; run = goes_run g; told_so = answered_told call transcript; output_so = refl; used_so = fuel })

pub answered_broken : (f : Function) (input : List ℕ) (why : Broken) (call : ℕ) → fresh f ≡ breaks why → Runs f input (λ ch. told_of (answered_by call [] ch)) (outcome.Broken why) [] 0
answered_broken f input why call broken = subst (λ m. runs_by f m input (λ ch. told_of (answered_by call [] ch)) (outcome.Broken why) [] 0) (sym broken) (refl, answered_told call [], refl, refl)

pub answered_counts : (grants : List Grant) (call : ℕ) (transcript : Transcript) → counts grants (λ ch. told_of (answered_by call transcript ch)) ≡ counts grants (told_by transcript)
answered_counts grants call transcript = counts_alike grants (told_by transcript) (λ ch. told_of (answered_by call transcript ch)) (answered_told call transcript)
