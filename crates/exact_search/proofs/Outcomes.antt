-- What the code's answer to a sheet says: how the search is answered, and which sets are shown. Assumes nothing.
use mathlib.Core.Path.{◌≡◌, refl}
use mathlib.Core.Bool.{Bool, true, false}
use mathlib.Core.List.{List, map}
use Prim.Native.Nat.{ℕ}
use Rattle.std.specs.Prelude.{Some, None, Ok, Err}
use Rattle.lists.specs.Lists.{padded}
use Rattle.sheet.specs.Limits.{most_agents}
use Rattle.sheet.specs.Sets.{set_of}
use Rattle.sheet.specs.Answers.{refused, accepted}
use Rattle.sheet.specs.Refusals.{number}
use Rattle.sheet.specs.Contents.{Contents}
use Rattle.sheet.specs.declared.refusal.Refusal.{Refusal}
use Rattle.sheet.proofs.Answering.{refused-of_err, accepted-of_ok}
use Rattle.exact_division.specs.Search.{searching}
use Rattle.exact_search.specs.Outcome.{stored, Searched}

module _ (bundles : List (List ℕ)) where
  stored-none : (exists : Bool) → None ≡ stored bundles exists → exists ≡ false
  stored-none true e = absurd (cc)
  stored-none false e = refl

  stored-some : (exists : Bool) (sets : List ℕ) → Some sets ≡ stored bundles exists → (exists ≡ true) × (sets ≡ padded most_agents 0 (map set_of bundles))
  stored-some true sets e = (refl, cc)
  stored-some false sets e = absurd (cc)

module _ {sheet : Contents} where
  pub refused-answered : (e : Refusal) → Searched sheet (Err e) → searching sheet ≡ refused (number e)
  refused-answered e s = refused-of_err (stored s.bundles) (searching sheet) e s.answered

  pub none-answered : Searched sheet (Ok None) → searching sheet ≡ accepted false
  none-answered s =
      let (exists, is, made) = accepted-of_ok (stored s.bundles) (searching sheet) None s.answered in
      let none = stored-none s.bundles exists made in
      cc

  -- found, with the sets of the bundles that are shown
  pub found-answered : (sets : List ℕ) → Searched sheet (Ok (Some sets)) → searching sheet ≡ accepted true
  found-answered sets s =
      let (exists, is, made) = accepted-of_ok (stored s.bundles) (searching sheet) (Some sets) s.answered in
      let some = (stored-some s.bundles exists sets made).0 in
      cc

  pub found-sets : (sets : List ℕ) (s : Searched sheet (Ok (Some sets))) → sets ≡ padded most_agents 0 (map set_of s.bundles)
  found-sets sets s =
      let (exists, is, made) = accepted-of_ok (stored s.bundles) (searching sheet) (Some sets) s.answered in
      (stored-some s.bundles exists sets made).1
