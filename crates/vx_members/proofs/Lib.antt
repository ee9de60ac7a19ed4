mod Callees
