-- The names of the built-in exception classes.
use Rattle.std.specs.Prelude.{ℕ, List, codes}
use Rattle.gv_base.specs.declared.exception.ExceptionKind.{ExceptionKind}
use Rattle.gv_base.specs.declared.exception.ExceptionKind.TheVariants.{Throwable, Exception, Error, AssertionError, RuntimeException, NullPointerException, IllegalArgumentException, NumberFormatException, IllegalStateException, IndexOutOfBoundsException, StringIndexOutOfBoundsException, ArithmeticException, NoSuchElementException, UnsupportedOperationException, ClassCastException, GroovyCastException, GroovyRuntimeException, MissingMethodException, MissingPropertyException, ReadOnlyPropertyException}

abbrev pub name_of : ExceptionKind → List ℕ
name_of Throwable = codes "Throwable"
name_of Exception = codes "Exception"
name_of Error = codes "Error"
name_of AssertionError = codes "AssertionError"
name_of RuntimeException = codes "RuntimeException"
name_of NullPointerException = codes "NullPointerException"
name_of IllegalArgumentException = codes "IllegalArgumentException"
name_of NumberFormatException = codes "NumberFormatException"
name_of IllegalStateException = codes "IllegalStateException"
name_of IndexOutOfBoundsException = codes "IndexOutOfBoundsException"
name_of StringIndexOutOfBoundsException = codes "StringIndexOutOfBoundsException"
name_of ArithmeticException = codes "ArithmeticException"
name_of NoSuchElementException = codes "NoSuchElementException"
name_of UnsupportedOperationException = codes "UnsupportedOperationException"
name_of ClassCastException = codes "ClassCastException"
name_of GroovyCastException = codes "GroovyCastException"
name_of GroovyRuntimeException = codes "GroovyRuntimeException"
name_of MissingMethodException = codes "MissingMethodException"
name_of MissingPropertyException = codes "MissingPropertyException"
name_of ReadOnlyPropertyException = codes "ReadOnlyPropertyException"
