mod Unasked
