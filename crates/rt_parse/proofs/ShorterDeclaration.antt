-- The readers of declarations take a token at least.
use Rattle.std.proofs.Common.{◌≡◌, ℕ, codes, List, [], ◌∷◌, length, Err, refl}
use Rattle.rt_lex.specs.Token.{is_this_word, is_this_sign}
use Rattle.rt_parse.specs.Inside.Reading.{name_at, begins_with, fault_found_at}
use Rattle.rt_parse.specs.Inside.ReadingList.{items_at, adds_at, names_at}
use Rattle.rt_grammar.specs.Options.{Options, Owner, OfTask, no_options}
use Rattle.rt_ast.specs.declared.ident.Ident.{Ident}
use Rattle.rt_ids.specs.declared.limits.TheConstants.{NESTING, STATEMENTS}
use Rattle.rt_parse.proofs.Lists.{no_longer_items, shorter_adds}
use Rattle.rt_parse.proofs.ShorterStatement.{shorter_block}
use Rattle.rt_parse.specs.Inside.ReadingResources.{interrupt_at, first_value_at, lock_free_at, locked_resource_at}
use Rattle.rt_parse.specs.Inside.ReadingResources.{resource_at, local_at}
use Rattle.rt_parse.specs.Inside.ReadingOptions.{binds_at, priority_at, capacity_at, shared_list_at, local_list_at}
use Rattle.rt_parse.specs.Inside.ReadingOptions.{option_at, options_at, some_options_at, ref_resource_at}
use Rattle.rt_parse.specs.Inside.ReadingOptions.{named_resource_at, listed_resource_at}
use Rattle.rt_parse.specs.Inside.ReadingBodies.{argument_at, task_arguments_at, parameters_at, task_at}
use Rattle.rt_parse.proofs.Shorter.{IsShorter, IsNoLonger, shorter_no_longer, shorter_then, no_longer_then}
use Rattle.rt_parse.proofs.Shorter.{no_longer_ok, shorter_if, no_longer_if, shorter_err, no_longer_repeat}
use Rattle.rt_parse.proofs.Shorter.{shorter_token}

pub shorter_name : IsShorter name_at
shorter_name = shorter_token _ _

pub shorter_interrupt : (before : ℕ) → IsShorter (interrupt_at before)
unfolding interrupt_at
shorter_interrupt before = shorter_then (shorter_token _ _)
    (λ _. no_longer_then (shorter_no_longer (shorter_token _ _))
    (λ _. no_longer_then (shorter_no_longer (shorter_token _ _)) (λ _. no_longer_ok _)))

no_longer_first_value : IsNoLonger first_value_at
unfolding first_value_at
no_longer_first_value = no_longer_then (shorter_no_longer (shorter_token _ _))
    (λ _. no_longer_then (shorter_no_longer (shorter_token _ _)) (λ _. no_longer_ok _))

pub shorter_resource : (before : ℕ) → IsShorter (resource_at before)
unfolding resource_at lock_free_at locked_resource_at
shorter_resource before =
    shorter_if (begins_with (is_this_word (codes "lock_free"))) _ _
    (shorter_then (shorter_token _ _) (λ _. no_longer_then (shorter_no_longer (shorter_token _ _))
    (λ _. no_longer_then no_longer_first_value (λ _. no_longer_ok _))))
    (shorter_then (shorter_token _ _) (λ _. no_longer_then no_longer_first_value (λ _. no_longer_ok _)))

pub shorter_local : (before : ℕ) → IsShorter (local_at before)
unfolding local_at
shorter_local before = shorter_then (shorter_token _ _) (λ _. no_longer_then no_longer_first_value
    (λ _. no_longer_ok _))

pub shorter_listed : IsShorter listed_resource_at
unfolding listed_resource_at ref_resource_at named_resource_at
shorter_listed =
    shorter_if (begins_with (is_this_sign (codes "&"))) _ _
    (shorter_then (shorter_token _ _) (λ _. no_longer_then (shorter_no_longer (shorter_token _ _))
    (λ _. no_longer_ok _)))
    (shorter_then (shorter_token _ _) (λ _. no_longer_ok _))

shorter_binds : (o : Options) → IsShorter (binds_at o)
unfolding binds_at
shorter_binds o = shorter_then (shorter_token _ _) (λ _. no_longer_then (shorter_no_longer (shorter_token _ _))
    (λ _. no_longer_then (shorter_no_longer (shorter_token _ _)) (λ _. no_longer_ok _)))

shorter_priority : (o : Options) → IsShorter (priority_at o)
unfolding priority_at
shorter_priority o = shorter_then (shorter_token _ _) (λ _. no_longer_then (shorter_no_longer (shorter_token _ _))
    (λ _. no_longer_then (shorter_no_longer (shorter_token _ _)) (λ _. no_longer_ok _)))

shorter_capacity : (o : Options) → IsShorter (capacity_at o)
unfolding capacity_at
shorter_capacity o = shorter_then (shorter_token _ _) (λ _. no_longer_then (shorter_no_longer (shorter_token _ _))
    (λ _. no_longer_then (shorter_no_longer (shorter_token _ _)) (λ _. no_longer_ok _)))

no_longer_names : IsNoLonger names_at
unfolding names_at
no_longer_names =
    no_longer_then (shorter_no_longer (shorter_token _ _)) (λ _ tokens. no_longer_items (codes "]")
    (adds_at (λ before. name_at)) (λ xs. shorter_no_longer
    (shorter_adds (λ before. name_at) (λ before. shorter_name) xs)) (length tokens) [] tokens)

shorter_shared_list : (o : Options) → IsShorter (shared_list_at o)
unfolding shared_list_at
shorter_shared_list o =
    shorter_then (shorter_token _ _) (λ _. no_longer_then (shorter_no_longer (shorter_token _ _))
    (λ _. no_longer_then (shorter_no_longer (shorter_token _ _))
    (λ _. no_longer_then {reader = λ ts. items_at (codes "]") (adds_at (λ before. listed_resource_at)) (length ts) []
    ts}
    (λ ts. no_longer_items (codes "]") (adds_at (λ before. listed_resource_at))
    (λ xs. shorter_no_longer (shorter_adds (λ before. listed_resource_at) (λ before. shorter_listed) xs))
    (length ts) [] ts) (λ _. no_longer_ok _))))

shorter_local_list : (o : Options) → IsShorter (local_list_at o)
unfolding local_list_at
shorter_local_list o = shorter_then (shorter_token _ _) (λ _. no_longer_then (shorter_no_longer (shorter_token _ _))
    (λ _. no_longer_then no_longer_names (λ _. no_longer_ok _)))

pub shorter_option : (owner : Owner) (o : Options) → IsShorter (option_at owner o)
unfolding option_at
shorter_option owner o =
    shorter_if (begins_with _) _ _ (shorter_binds o) (shorter_if (begins_with _) _ _ (shorter_priority o)
    (shorter_if (begins_with _) _ _ (shorter_capacity o)
    (shorter_if (begins_with _) _ _ (shorter_shared_list o)
    (shorter_if (begins_with _) _ _ (shorter_local_list o) (shorter_err Options fault_found_at)))))

-- there is no option at the end of the text
pub no_option : (owner : Owner) (o : Options) → option_at owner o [] ≡ Err (fault_found_at [])
unfolding option_at
no_option owner o = refl

pub shorter_argument : (xs : List Ident) → IsShorter (argument_at xs)
unfolding argument_at
shorter_argument xs = shorter_then (shorter_token _ _) (λ _. no_longer_then (shorter_no_longer (shorter_token _ _))
    (λ _. no_longer_ok _))

no_longer_options : (owner : Owner) → IsNoLonger (options_at owner)
unfolding options_at some_options_at
no_longer_options owner =
    no_longer_if (begins_with (is_this_sign (codes "("))) _ _
    (no_longer_then (shorter_no_longer (shorter_token _ _)) (λ _ tokens. no_longer_items (codes ")") (option_at owner)
    (λ o. shorter_no_longer (shorter_option owner o)) (length tokens) no_options tokens)) (no_longer_ok no_options)

no_longer_arguments : IsNoLonger task_arguments_at
unfolding task_arguments_at parameters_at
no_longer_arguments =
    no_longer_if (begins_with (is_this_word (codes "with"))) _ _
    (no_longer_then (shorter_no_longer (shorter_token _ _))
    (λ _. no_longer_then (shorter_no_longer (shorter_token _ _))
    (λ x tokens. no_longer_repeat (is_this_sign (codes ",")) argument_at
    (λ xs. shorter_no_longer (shorter_argument xs)) (length tokens) (x ∷ []) tokens)))
    (no_longer_ok [])

pub shorter_task : (before : ℕ) → IsShorter (task_at before)
unfolding task_at
shorter_task before =
    shorter_then (shorter_token _ _) (λ _. no_longer_then (shorter_no_longer (shorter_token _ _))
    (λ _. no_longer_then (no_longer_options OfTask) (λ _. no_longer_then no_longer_arguments
    (λ _. no_longer_then (shorter_no_longer (shorter_block NESTING STATEMENTS)) (λ _. no_longer_ok _)))))
