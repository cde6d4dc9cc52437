-- The exception classes among the built-in ones.
use Rattle.std.proofs.Common.{◌≡◌, Some, refl}
use Rattle.std.specs.Prelude.{slice_get}
use Rattle.gv_base.specs.Exceptions.{name_of}
use Rattle.gv_base.specs.declared.exception.ExceptionKind.{ExceptionKind}
use Rattle.gv_base.specs.declared.exception.ExceptionKind.TheVariants.{Throwable, Exception, Error, AssertionError, RuntimeException, NullPointerException, IllegalArgumentException, NumberFormatException, IllegalStateException, IndexOutOfBoundsException, StringIndexOutOfBoundsException, ArithmeticException, NoSuchElementException, UnsupportedOperationException, ClassCastException, GroovyCastException, GroovyRuntimeException, MissingMethodException, MissingPropertyException, ReadOnlyPropertyException}
use Rattle.gv_classes.specs.BuiltIn.{rows, built_in_names, exception_class}

-- each bears its kind's name
pub exception_named : (kind : ExceptionKind) → slice_get built_in_names (exception_class kind) ≡ Some (name_of kind)
unfolding rows
exception_named Throwable = refl
exception_named Exception = refl
exception_named Error = refl
exception_named AssertionError = refl
exception_named RuntimeException = refl
exception_named NullPointerException = refl
exception_named IllegalArgumentException = refl
exception_named NumberFormatException = refl
exception_named IllegalStateException = refl
exception_named IndexOutOfBoundsException = refl
exception_named StringIndexOutOfBoundsException = refl
exception_named ArithmeticException = refl
exception_named NoSuchElementException = refl
exception_named UnsupportedOperationException = refl
exception_named ClassCastException = refl
exception_named GroovyCastException = refl
exception_named GroovyRuntimeException = refl
exception_named MissingMethodException = refl
exception_named MissingPropertyException = refl
exception_named ReadOnlyPropertyException = refl
